use Rattle.std.proofs.Common.{◌≡◌, Err, rules, ◌∙◌, ap}
use Rattle.ghs_sched.specs.declared.fault.RunFault.TheVariants.{TurnLimit}
use Rattle.peer_hand.specs.Timed.{timed_json}
use Rattle.peer_trace.specs.declared.protocol.Protocol.TheVariants.{Ghs}
use Rattle.ghs_hand.proofs.Timing.{cut, timed}
use Rattle.ghs_hand.proofs.timed.timed_of.Goals as goal

pub returns-in-Ok-end-clause-text : goal.returns-in-Ok-end-clause-text
returns-in-Ok-end-clause-text c =
    let ran = c.run_rounds-rounds in (
      c.in_ok-graph.graph,
      ran.new.world.net.trace,
      ran.result.0,
      c.in_ok-graph.ensures.graph,
      timed c.args.wake c.in_ok-graph.graph c.args.seed c.in-Ok.world ran.new.world _ _ ran.result.0 c.in-Ok.ensures.graph c.in-Ok.ensures.wake
          c.in-Ok.ensures.turns c.seeded.ensures ran.ensures.run ran.result.1 c.in-Ok-end.field-0 c.in-Ok-end.is ran.ensures.halted,
      c.in_ok-timed_text-in-Ok-end.ensures ∙ ap (timed_json Ghs ran.result.0) c.trace.ensures.trace,
    )

pub returns-in-Err-TurnLimit-clause-fault : goal.returns-in-Err-TurnLimit-clause-fault
returns-in-Err-TurnLimit-clause-fault c =
    let ran = c.run_rounds-rounds in
    let is : ran.result.1 ≡ Err TurnLimit = search rules in (
      c.in_ok-graph.graph,
      ran.new.world.net.trace,
      ran.result.0,
      c.in_ok-graph.ensures.graph,
      cut c.args.wake c.in_ok-graph.graph c.args.seed c.in-Ok.world ran.new.world _ _ ran.result.0 c.in-Ok.ensures.graph c.in-Ok.ensures.wake
          c.in-Ok.ensures.turns c.seeded.ensures ran.ensures.run ran.result.1 is ran.ensures.fault ran.ensures.going c.in-Ok.ensures.last
          c.turns.result _ c.turns.ensures.fits c.turns.ensures.few,
    )
