-- How a run that goes on comes to its end, and how it stops before.
use Rattle.std.proofs.Common.{◌≡◌, ℕ, ◌<◌, Bool, List, [], Result, Ok, Err, length, ap, arith, subst, sym}
use Rattle.std.specs.Prelude.{◌↔◌, IsTrue, OnOk}
use Rattle.ghs_graph.specs.Graph.{Shape}
use Rattle.peer_machine.specs.Net.{Net}
use Rattle.peer_machine.specs.Rules.{Rules}
use Rattle.peer_machine.specs.Run.{net_after}
use Rattle.peer_runs.specs.declared.fault.RunFault.{RunFault}
use Rattle.peer_runs.specs.declared.fault.RunFault.TheVariants.{TurnLimit}
use Rattle.peer_runs.specs.Picks.{IsPicked}
use Rattle.peer_runs.specs.Runs.{HasRun, IsAtLimit}
use Rattle.peer_runs.specs.WorldState.{WorldState, ready_events, wakers}
use Rattle.peer_schedule.specs.Schedule.{seeded}
use Rattle.peer_texts.specs.declared.trace.TheConstants.{EVENT_LIMIT}
use Rattle.peer_hand.specs.Going.{GoesOnTo, HasGoneOn, HasStopped}

module _ {S M : Type 0} (r : Rules S M) (has_ended : Shape → Net S M → Type 0) (seed : ℕ) (old new : WorldState) (words after : List ℕ)
    (is : words ≡ seeded seed) (run : HasRun r EVENT_LIMIT old new words after) (done : Bool)
    (ready : IsTrue done ↔ (ready_events r new ≡ []))
    (ended : IsTrue done ↔ has_ended new.net.graph (net_after r new.net.graph new.net.trace)) where
  goes : GoesOnTo r has_ended seed old new.net.trace
  goes = (after, subst (λ (s : List ℕ). IsPicked r (wakers old) old.net.graph EVENT_LIMIT old.net.trace s new.net.trace after) is run.picked)

  pub gone_on : (o : Result (Unit {0}) RunFault) → o ≡ Ok tt → OnOk o (ready_events r new ≡ []) → HasGoneOn r has_ended seed old new.net.trace
  gone_on o end over =
      let none : ready_events r new ≡ [] = subst (λ (x : Result (Unit {0}) RunFault). OnOk x (ready_events r new ≡ [])) end over in
      record {
        picked = goes;
        ended = subst (λ (s : Shape). has_ended s (net_after r s new.net.trace)) run.graph (ended.0 (ready.1 none));
      }

  pub stopped : (o : Result (Unit {0}) RunFault) → o ≡ Err TurnLimit → (o ≡ Err TurnLimit → IsAtLimit r EVENT_LIMIT new) →
      HasStopped r has_ended seed old new.net.trace
  stopped o end limit =
      let at = limit end in
      let some : 0 < length (ready_events r new) = at.ready in
      record {
        picked = goes;
        used = at.spent;
        goes_on = λ over.
            let none : ready_events r new ≡ [] =
            ready.0 (ended.1 (subst (λ (s : Shape). has_ended s (net_after r s new.net.trace)) (sym run.graph) over)) in
            let zero : length (ready_events r new) ≡ 0 = ap length none in
            omega (arith, some, zero);
      }
