use Rattle.std.proofs.Common.{◌∙◌}
use Rattle.peer_network.specs.declared.event.Event.TheVariants.{Wake}
use Rattle.ghs_steps.proofs.Going.{lawful_net, lines_put, trace_more}
use Rattle.ghs_steps.proofs.write.put_lines.Goals as goal

pub answer-requires : goal.answer-requires
answer-requires c =
    let inv = c.loop-event.invariant in
    lawful_net c.loop-event.net c.args.graph c.args.events.now c.loop-event.event-index (Wake 0) inv.graph inv.trace c.requires.run
    c.loop-event-test.true

pub put_step-requires-clause-lawful : goal.put_step-requires-clause-lawful
put_step-requires-clause-lawful c =
    let inv = c.loop-event.invariant in
    lawful_net c.loop-event.net c.args.graph c.args.events.now c.loop-event.event-index (Wake 0) inv.graph inv.trace c.requires.run
    c.loop-event-test.true

pub loop-event-preserved : goal.loop-event-preserved
loop-event-preserved c =
    let inv = c.loop-event.invariant in
    record {
      graph = c.in_ok-put_step.ensures.graph ∙ inv.graph;
      trace = trace_more c.loop-event.net c.put_step.new.net c.args.events.now c.loop-event.event-index (Wake 0) inv.trace c.loop-event-test.true
          c.in_ok-put_step.ensures.trace;
      text = lines_put c.args.form c.loop-event.net c.args.graph c.args.events.now c.loop-event.event-index (Wake 0) _ _ _ inv.graph inv.trace
          c.loop-event-test.true inv.text c.in_ok-put_step.ensures.text;
    }
