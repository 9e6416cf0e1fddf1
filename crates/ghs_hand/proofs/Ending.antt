-- How a run that goes on comes to its end, and how it stops before.
use Rattle.std.proofs.Common.{◌≡◌, ℕ, ◌+◌, ◌≤◌, ◌^◌, Bool, true, false, Result, Ok, Err, List, length, ap, arith, subst, sym, ◌∙◌, ⊎_elim}
use Rattle.std.specs.Prelude.{IfErr, IfOk, OnErr}
use Rattle.ghs_graph.specs.Graph.{Shape}
use Rattle.ghs_protocol.specs.Marks.{HasEnded}
use Rattle.ghs_protocol.specs.Run.{net_after}
use Rattle.ghs_patient.specs.Runs as patient
use Rattle.ghs_patient.specs.Runs.{IsPatientlyPicked}
use Rattle.ghs_sched.specs.Picks.{IsPicked}
use Rattle.ghs_sched.specs.Runs as sched
use Rattle.ghs_sched.specs.Runs.{EndsFor, IsEnd}
use Rattle.peer_schedule.specs.Schedule.{seeded}
use Rattle.ghs_sched.specs.declared.fault.RunFault.{RunFault}
use Rattle.ghs_sched.specs.declared.fault.RunFault.TheVariants.{TurnLimit}
use Rattle.ghs_sched.specs.declared.run.RunEnd.{RunEnd}
use Rattle.ghs_sched.specs.declared.run.RunEnd.TheVariants.{Halted}
use Rattle.ghs_world.specs.WorldState.{WorldState, home, wakers}
use Rattle.ghs_hand.specs.Going.{GoesOnTo, HasGoneOn, HasStopped}

module _ (seed : ℕ) (old new : WorldState) (words after : List ℕ) (begun : words ≡ seeded seed) where
  pub among_all : sched.HasRun old new words after → GoesOnTo false seed old new.net.trace
  among_all ran = (after, subst (λ (s : List ℕ). IsPicked (wakers old) old.net.graph old.turns old.net.trace s new.net.trace after) begun ran.picked)

  pub patiently : patient.HasRun old new words after → GoesOnTo true seed old new.net.trace
  patiently ran =
      (after, subst (λ (s : List ℕ). IsPatientlyPicked (wakers old) old.net.graph old.turns old.net.trace s new.net.trace after) begun ran.picked)

module _ (way : Bool) (seed : ℕ) (old new : WorldState) (r : Result RunEnd RunFault) (picked : GoesOnTo way seed old new.net.trace)
    (same : new.net.graph ≡ old.net.graph)
  where
    pub gone_on : (e : RunEnd) → r ≡ Ok e → IfOk r (λ x. IsEnd new x) → HasGoneOn way seed old new.net.trace
    gone_on e is ends = record {
      picked = picked;
      ended = by_end e (subst (λ (x : Result RunEnd RunFault). IfOk x (λ y. IsEnd new y)) is ends);
    }
      where
        by_end : (e : RunEnd) → IsEnd new e → HasEnded old.net.graph (net_after old.net.graph new.net.trace)
        by_end (Halted v) end = subst (λ (g : Shape). HasEnded g (net_after g new.net.trace)) same end.0

    -- there are fewer turns than numbers of tickets, so it is the turns that are used
    pub stopped : (f : RunFault) (limit outs : ℕ) → r ≡ Err f → f ≡ TurnLimit → IfErr r (λ x. EndsFor new x) →
        OnErr r (HasEnded new.net.graph (home new) → ⊥) → new.turns ≡ old.turns →
        new.last + length old.net.trace ≡ old.last + length new.net.trace →
        old.last ≡ length old.net.trace →
        length new.net.trace + outs ≤ limit →
        limit ≤ 2 ^ 40 →
        HasStopped way seed old new.net.trace
    stopped f limit outs is limited ends goes turns numbers first fits few =
        let is_limit : r ≡ Err TurnLimit = is ∙ ap (λ (x : RunFault). Err x) limited in
        let used : EndsFor new TurnLimit = subst (λ (x : Result RunEnd RunFault). IfErr x (λ y. EndsFor new y)) is_limit ends in
        let on : HasEnded new.net.graph (home new) → ⊥ =
        subst (λ (x : Result RunEnd RunFault). OnErr x (HasEnded new.net.graph (home new) → ⊥)) is_limit goes in
        record {
          picked = picked;
          used = ⊎_elim (λ (all : length new.net.trace ≡ new.turns). all ∙ turns)
              (λ (large : 18446744073709551615 ≤ new.last). absurd (omega arith)) used;
          goes_on = λ ended. on (subst (λ (g : Shape). HasEnded g (net_after g new.net.trace)) (sym same) ended);
        }
