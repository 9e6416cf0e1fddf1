-- A run by rounds comes to its end, or stops before.
use Rattle.std.proofs.Common.{◌≡◌, ℕ, ◌<◌, Bool, List, [], Result, Ok, Err, length, ap, arith, subst, sym}
use Rattle.std.specs.Prelude.{◌↔◌, IsTrue, OnOk}
use Rattle.ghs_graph.specs.Graph.{Shape}
use Rattle.peer_network.specs.declared.wake_set.WakeSet.{WakeSet}
use Rattle.peer_machine.specs.Net.{Net}
use Rattle.peer_machine.specs.Rules.{Rules}
use Rattle.peer_machine.specs.Run.{net_after}
use Rattle.peer_picking.specs.Runs.{HasRun}
use Rattle.peer_runs.specs.declared.fault.RunFault.{RunFault}
use Rattle.peer_runs.specs.declared.fault.RunFault.TheVariants.{TurnLimit}
use Rattle.peer_runs.specs.Runs.{IsAtLimit}
use Rattle.peer_runs.specs.WorldState.{WorldState, ready_events}
use Rattle.peer_schedule.specs.Schedule.{seeded}
use Rattle.peer_texts.specs.declared.trace.TheConstants.{EVENT_LIMIT}
use Rattle.peer_hand.specs.Timed.{IsByRounds, IsCut, IsTimed}

module _ {S M : Type 0} (r : Rules S M) (has_ended : Shape → Net S M → Type 0) (wake : WakeSet) (g : Shape) (seed : ℕ) (old new : WorldState)
    (words after : List ℕ) (n : ℕ) (graph : old.net.graph ≡ g) (wakes : old.wake ≡ wake) (is : words ≡ seeded seed)
    (run : HasRun r EVENT_LIMIT old new words after n) (done : Bool)
    (ready : IsTrue done ↔ (ready_events r new ≡ []))
    (ended : IsTrue done ↔ has_ended new.net.graph (net_after r new.net.graph new.net.trace)) where
  goes : IsByRounds r has_ended wake g seed new.net.trace n
  goes = (after, rw (graph, wakes, is) at run.picked)

  same : new.net.graph ≡ g
  same = rw graph at run.graph

  pub timed : (o : Result (Unit {0}) RunFault) → o ≡ Ok tt → OnOk o (ready_events r new ≡ []) → IsTimed r has_ended wake g seed new.net.trace n
  timed o end over =
      let none : ready_events r new ≡ [] = subst (λ (x : Result (Unit {0}) RunFault). OnOk x (ready_events r new ≡ [])) end over in
      record {
        picked = goes;
        ended = subst (λ (s : Shape). has_ended s (net_after r s new.net.trace)) same (ended.0 (ready.1 none));
      }

  pub cut : (o : Result (Unit {0}) RunFault) → o ≡ Err TurnLimit → (o ≡ Err TurnLimit → IsAtLimit r EVENT_LIMIT new) →
      IsCut r has_ended wake g seed new.net.trace n
  cut o end limit =
      let at = limit end in
      let some : 0 < length (ready_events r new) = at.ready in
      record {
        picked = goes;
        used = at.spent;
        goes_on = λ over.
            let none : ready_events r new ≡ [] =
            ready.0 (ended.1 (subst (λ (s : Shape). has_ended s (net_after r s new.net.trace)) (sym same) over)) in
            let zero : length (ready_events r new) ≡ 0 = ap length none in
            omega (arith, some, zero);
      }
