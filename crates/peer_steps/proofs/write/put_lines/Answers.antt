use Rattle.std.proofs.Common.{◌∙◌}
use Rattle.peer_network.specs.declared.event.Event.TheVariants.{Wake}
use Rattle.peer_steps.proofs.Going.{grown, lines_put, next_lawful}
use Rattle.peer_steps.proofs.write.put_lines.Goals as goal

pub put_step-requires : goal.put_step-requires
put_step-requires g c =
    let inv = c.loop-event.invariant in
    next_lawful g.P.Protocol.rules c.loop-event.net c.args.graph c.args.events.now c.loop-event.event-index
    (Wake 0) inv.graph inv.trace c.requires.run
    c.loop-event-test.true

pub loop-event-preserved : goal.loop-event-preserved
loop-event-preserved g c =
    let inv = c.loop-event.invariant in
    let put = c.in_ok-put_step.ensures in
    record {
      graph = put.graph ∙ inv.graph;
      trace = grown c.loop-event.net.trace c.put_step.new.net.trace c.args.events.now c.loop-event.event-index (Wake 0) inv.trace
          c.loop-event-test.true put.trace;
      text = lines_put g.P.Protocol.rules g.P.Spoken.words c.args.form c.loop-event.net c.args.graph c.args.events.now c.loop-event.event-index
          (Wake 0) _ _ _ inv.graph inv.trace
          c.loop-event-test.true inv.text put.text;
    }
