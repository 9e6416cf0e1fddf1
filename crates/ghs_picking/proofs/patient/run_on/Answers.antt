use Rattle.std.proofs.Common.{◌∙◌, subst, sym}
use Rattle.ghs_protocol.specs.Laws.{IsNetOf}
use Rattle.ghs_core.specs.NetState.{NetState, net_of, network}
use Rattle.ghs_world.specs.WorldState.{home, wakers}
use Rattle.ghs_sched.proofs.lemmas.Running.{not_so}
use Rattle.ghs_sched.proofs.lemmas.Runs.{among_begins, among_more, run_stays}
use Rattle.ghs_patient.specs.Runs.{patient_after}
use Rattle.ghs_patient.proofs.lemmas.Picks.{is_net, pick_is_patient}
use Rattle.ghs_patient.proofs.lemmas.Growing.{grown_begins, grown_next, grown_stays, is_short, turns_left}
use Rattle.ghs_picking.proofs.Recalled.{recalled}
use Rattle.ghs_picking.proofs.patient.run_on.Goals as goal

pub events-init : goal.events-init
events-init g c = let here = recalled c.args.world.now c.requires.outs in record {
  run = among_begins patient_after c.args.world.now c.args.world.now c.args.schedule.now here;
  grown = grown_begins c.args.world.now c.args.world.now here;
  choices = c.requires.choices;
  kept = c.requires.kept;
}

pub events-preserved : goal.events-preserved
events-preserved g c = let next = c.in-Ok.ensures.ok in record {
  run = among_more patient_after c.args.world.now c.events.world c.make_next.new.world c.args.schedule.now c.events.schedule c.make_next.new.schedule
      c.events.invariant.run (not_so c.ended.result c.ended.ensures.ended c.events-test.true)
      (sym c.has_turn.ensures ∙ c.if-not-has_turn.false) next;
  grown = grown_next c.args.world.now.net.graph c.args.world.now.net.trace c.events.world c.make_next.new.world next.event
      c.events.invariant.run.graph
      (pick_is_patient (wakers c.events.world) (network c.events.world.net) (home c.events.world) c.events.schedule next.event next.pick)
      next.made c.events.invariant.grown;
  choices = c.in-Ok.ensures.choices;
  kept = c.in-Ok.ensures.kept;
}

pub returns-then-not-has_turn-clause-short : goal.returns-then-not-has_turn-clause-short
returns-then-not-has_turn-clause-short g c =
    let is : IsNetOf c.args.world.now.net.graph (home c.args.world.now) =
    subst (λ (n : NetState). IsNetOf n.graph (net_of n)) c.net.ensures.net (is_net c.net.result.now c.trace.ensures.graph c.trace.ensures.run) in
    is_short c.args.world.now c.events.world is c.events.invariant.grown c.law_patience.ensures

pub returns-then-not-has_turn-clause-ends : goal.returns-then-not-has_turn-clause-ends
returns-then-not-has_turn-clause-ends g c =
    let is : IsNetOf c.args.world.now.net.graph (home c.args.world.now) =
    subst (λ (n : NetState). IsNetOf n.graph (net_of n)) c.net.ensures.net (is_net c.net.result.now c.trace.ensures.graph c.trace.ensures.run) in
    let run = c.events.invariant.run in
    λ enough e. turns_left c.args.world.now c.events.world is c.events.invariant.grown c.law_patience.ensures run.graph run.turns run.outs run.numbers
    c.law_patience_lasts.ensures (not_so c.ended.result c.ended.ensures.ended c.events-test.true)
    (sym c.has_turn.ensures ∙ c.if-not-has_turn.true) enough

pub returns-in-Err-clause-run : goal.returns-in-Err-clause-run
returns-in-Err-clause-run g c =
    rw c.in-Err.ensures.word (run_stays _ _ _ _ _ c.events.invariant.run c.in-Err.ensures.err)

pub returns-in-Err-clause-short : goal.returns-in-Err-clause-short
returns-in-Err-clause-short g c =
    let is : IsNetOf c.args.world.now.net.graph (home c.args.world.now) =
    subst (λ (n : NetState). IsNetOf n.graph (net_of n)) c.net.ensures.net (is_net c.net.result.now c.trace.ensures.graph c.trace.ensures.run) in
    is_short c.args.world.now c.make_next.new.world is
    (grown_stays c.args.world.now.net.graph c.args.world.now.net.trace c.events.world c.make_next.new.world c.in-Err.ensures.err
    c.events.invariant.grown) c.law_patience.ensures

pub returns-clause-short : goal.returns-clause-short
returns-clause-short g c =
    let is : IsNetOf c.args.world.now.net.graph (home c.args.world.now) =
    subst (λ (n : NetState). IsNetOf n.graph (net_of n)) c.net.ensures.net (is_net c.net.result.now c.trace.ensures.graph c.trace.ensures.run) in
    is_short c.args.world.now c.events.world is c.events.invariant.grown c.law_patience.ensures
