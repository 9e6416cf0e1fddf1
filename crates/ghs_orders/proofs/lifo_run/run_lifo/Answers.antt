use Rattle.std.proofs.Common.{subst}
use Rattle.std.specs.Prelude.{OnErr, Result}
use Rattle.ghs_protocol.specs.Laws.{IsNetOf}
use Rattle.ghs_protocol.specs.Marks.{HasEnded}
use Rattle.ghs_core.specs.NetState.{NetState, net_of}
use Rattle.ghs_world.specs.WorldState.{home}
use Rattle.ghs_sched.specs.declared.fault.RunFault.{RunFault}
use Rattle.ghs_sched.specs.declared.run.RunEnd.{RunEnd}
use Rattle.ghs_patient.proofs.lemmas.Picks.{is_net}
use Rattle.ghs_patient.proofs.lemmas.Growing.{is_short, turns_left}
use Rattle.ghs_orders.proofs.Running.{last_grown, last_run}
use Rattle.ghs_orders.proofs.lifo_run.run_lifo.Goals as goal

pub returns-clause-run : goal.returns-clause-run
returns-clause-run c = last_run c.args.world.now c.args.schedule.now c.run_by.ensures.gone

pub returns-clause-short : goal.returns-clause-short
returns-clause-short c =
    let is : IsNetOf c.args.world.now.net.graph (home c.args.world.now) =
    subst (λ (n : NetState). IsNetOf n.graph (net_of n)) c.net.ensures.net (is_net c.net.result.now c.trace.ensures.graph c.trace.ensures.run) in
    is_short c.args.world.now c.run_by.new.world is
    (last_grown c.args.world.now c.args.schedule.now c.run_by.ensures.gone) c.law_patience.ensures

pub returns-clause-ends : goal.returns-clause-ends
returns-clause-ends c =
    let is : IsNetOf c.args.world.now.net.graph (home c.args.world.now) =
    subst (λ (n : NetState). IsNetOf n.graph (net_of n)) c.net.ensures.net (is_net c.net.result.now c.trace.ensures.graph c.trace.ensures.run) in
    let new = c.run_by.new.world in
    let run = last_run c.args.world.now c.args.schedule.now c.run_by.ensures.gone in
    λ enough limit. turns_left c.args.world.now new is (last_grown c.args.world.now c.args.schedule.now c.run_by.ensures.gone)
    c.law_patience.ensures run.graph run.turns run.outs run.numbers c.law_patience_lasts.ensures
    (subst (λ (r : Result RunEnd RunFault). OnErr r (HasEnded new.net.graph (home new) → ⊥)) limit c.run_by.ensures.going)
    (c.run_by.ensures.full limit) enough
