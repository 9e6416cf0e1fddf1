use Rattle.std.proofs.Common.{subst}
use Rattle.std.specs.Prelude.{OnErr, Result}
use Rattle.ghs_graph.specs.Graph.{IsGraph}
use Rattle.ghs_protocol.specs.Marks.{HasEnded}
use Rattle.ghs_core.specs.NetState.{NetState}
use Rattle.ghs_world.specs.WorldState.{home}
use Rattle.ghs_sched.specs.declared.fault.RunFault.{RunFault}
use Rattle.ghs_sched.specs.declared.run.RunEnd.{RunEnd}
use Rattle.ghs_orders.proofs.RoundRobinRunning.{has_few_laps, is_short, run_in_turn, turns_left}
use Rattle.ghs_orders.proofs.round_robin_run.run_round_robin.Goals as goal

pub returns-clause-run : goal.returns-clause-run
returns-clause-run c = run_in_turn c.args.world.now _ c.requires.trace c.run_by.ensures.gone

pub returns-clause-laps : goal.returns-clause-laps
returns-clause-laps c =
    let graph : IsGraph c.args.world.now.net.graph = subst (λ (n : NetState). IsGraph n.graph) c.net.ensures.net c.trace.ensures.graph in
    has_few_laps c.args.world.now c.run_by.new.world graph (run_in_turn c.args.world.now _ c.requires.trace c.run_by.ensures.gone)

pub returns-clause-short : goal.returns-clause-short
returns-clause-short c =
    let graph : IsGraph c.args.world.now.net.graph = subst (λ (n : NetState). IsGraph n.graph) c.net.ensures.net c.trace.ensures.graph in
    is_short c.args.world.now c.run_by.new.world graph (run_in_turn c.args.world.now _ c.requires.trace c.run_by.ensures.gone)

pub returns-clause-ends : goal.returns-clause-ends
returns-clause-ends c =
    let graph : IsGraph c.args.world.now.net.graph = subst (λ (n : NetState). IsGraph n.graph) c.net.ensures.net c.trace.ensures.graph in
    let new = c.run_by.new.world in
    λ enough limit. turns_left c.args.world.now new graph (run_in_turn c.args.world.now _ c.requires.trace c.run_by.ensures.gone)
    c.law_patience_lasts.ensures
    (subst (λ (r : Result RunEnd RunFault). OnErr r (HasEnded new.net.graph (home new) → ⊥)) limit c.run_by.ensures.going)
    (c.run_by.ensures.full limit) enough
