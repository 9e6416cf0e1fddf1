use Rattle.std.proofs.Common.{◌≡◌, Err, rules, ◌∙◌, ap}
use Rattle.peer_net.specs.NetState.{NetState}
use Rattle.peer_runs.specs.declared.fault.RunFault.TheVariants.{TurnLimit}
use Rattle.peer_hand.specs.Timed.{timed_json}
use Rattle.peer_hand.proofs.Timing.{cut, timed}
use Rattle.peer_hand.proofs.timed.timed_of.Goals as goal

pub returns-in-Ok-end-clause-text : goal.returns-in-Ok-end-clause-text
returns-in-Ok-end-clause-text g c =
    let ran = c.run_rounds-rounds in (
      c.in_ok-graph.graph,
      ran.new.world.net.trace,
      ran.result.0,
      c.in_ok-graph.ensures.graph,
      timed g.P.Protocol.rules g.P.Ends.has_ended c.args.wake c.in_ok-graph.graph c.args.seed c.in-Ok.world ran.new.world _ _ ran.result.0
          c.in-Ok.ensures.graph c.in-Ok.ensures.wake c.seeded.ensures ran.ensures.run c.ended.result c.ended.ensures.ready c.ended.ensures.ended
          ran.result.1 c.in-Ok-end.is ran.ensures.over,
      c.in_ok-timed_text-in-Ok-end.ensures
          ∙ ap (timed_json c.args.protocol ran.result.0) (c.trace.ensures.trace ∙ ap (λ (n : NetState). n.trace) c.net.ensures.net),
    )

pub returns-in-Err-TurnLimit-clause-fault : goal.returns-in-Err-TurnLimit-clause-fault
returns-in-Err-TurnLimit-clause-fault g c =
    let ran = c.run_rounds-rounds in
    let is : ran.result.1 ≡ Err TurnLimit = search rules in (
      c.in_ok-graph.graph,
      ran.new.world.net.trace,
      ran.result.0,
      c.in_ok-graph.ensures.graph,
      cut g.P.Protocol.rules g.P.Ends.has_ended c.args.wake c.in_ok-graph.graph c.args.seed c.in-Ok.world ran.new.world _ _ ran.result.0
          c.in-Ok.ensures.graph c.in-Ok.ensures.wake c.seeded.ensures ran.ensures.run c.ended.result c.ended.ensures.ready c.ended.ensures.ended
          ran.result.1 is ran.ensures.limit,
    )
