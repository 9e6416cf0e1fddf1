-- What a world has run through that was opened and run on by the schedule of a seed.
use Rattle.std.proofs.Common.{◌≡◌, ◌∙◌, ℕ, ◌<◌, Bool, List, [], length, ⊎_elim, ap, arith, subst, sym}
use Rattle.std.specs.Prelude.{◌⊎◌, ◌↔◌, IsTrue, OnOk, Result, Ok, Err}
use Rattle.ghs_choices.specs.declared.schedule_kind.ScheduleKind.{ScheduleKind}
use Rattle.ghs_choices.specs.declared.schedule_kind.ScheduleKind.TheVariants.{Lifo, Patient, RoundRobin, Rounds, Seeded, Waits}
use Rattle.ghs_graph.specs.Graph.{Shape, IsGraph}
use Rattle.peer_network.specs.declared.event.Event.{Event}
use Rattle.peer_network.specs.Network.{network_of}
use Rattle.peer_schedule.specs.Schedule.{seeded}
use Rattle.peer_network.specs.declared.wake_set.WakeSet.{WakeSet}
use Rattle.peer_network.specs.Wakes.{may_wake}
use Rattle.peer_machine.specs.Rules.{Rules}
use Rattle.peer_machine.specs.Net.{Net}
use Rattle.peer_machine.specs.Run.{IsRunUnder, net_after}
use Rattle.peer_runs.specs.declared.fault.RunFault.{RunFault}
use Rattle.peer_runs.specs.declared.fault.RunFault.TheVariants.{TurnLimit}
use Rattle.peer_runs.specs.Lawful.{lawful_events}
use Rattle.peer_runs.specs.Picks.{IsPicked}
use Rattle.peer_runs.specs.Runs.{HasRun, IsAtLimit}
use Rattle.peer_runs.specs.WorldState.{WorldState, ready_events, wakers}
use Rattle.peer_picking.specs.LifoPicks.{IsPickedLast}
use Rattle.peer_picking.specs.LifoRuns as lifo
use Rattle.peer_picking.specs.Runs as rounds
use Rattle.peer_report.specs.Runs.{HasRunBy, IsPickedBy, IsRunBy, IsStopped, IsWholeRun}

-- a run from an opening is one by the kind that made it
module _ {S M : Type 0} (r : Rules S M) (turns : ℕ) (old new : WorldState) (words after : List ℕ) (first : old.net.trace ≡ []) where
  pub seeded_by : HasRun r turns old new words after → (kind : ScheduleKind) →
      (kind ≡ Seeded) ⊎ ((kind ≡ Patient) ⊎ ((kind ≡ Waits) ⊎ (kind ≡ RoundRobin))) →
      HasRunBy kind r turns old new words after
  seeded_by run kind among = record { graph = run.graph; wake = run.wake; picked = by among }
    where
      picked : IsPicked r (wakers old) old.net.graph turns [] words new.net.trace after
      picked = subst (λ (es : List Event). IsPicked r (wakers old) old.net.graph turns es words new.net.trace after) first run.picked

      by : (kind ≡ Seeded) ⊎ ((kind ≡ Patient) ⊎ ((kind ≡ Waits) ⊎ (kind ≡ RoundRobin))) →
          IsPickedBy kind r (wakers old) old.net.graph turns words new.net.trace after
      by =
          ⊎_elim (λ z. rw z picked)
          (⊎_elim (λ z. rw z picked) (⊎_elim (λ z. rw z picked) (λ z. rw z picked)))

  pub rounds_by : (n : ℕ) → rounds.HasRun r turns old new words after n → HasRunBy Rounds r turns old new words after
  rounds_by n run = record { graph = run.graph; wake = run.wake; picked = (n, run.picked) }

  pub lifo_by : lifo.HasRun r turns old new words after → HasRunBy Lifo r turns old new words after
  lifo_by run = record {
    graph = run.graph;
    wake = run.wake;
    picked = subst (λ (es : List Event). IsPickedLast r (wakers old) old.net.graph turns es words new.net.trace after) first run.picked;
  }

module _ {S M : Type 0} (r : Rules S M) (has_ended : Shape → Net S M →
    Type 0) (kind : ScheduleKind) (seed : ℕ) (wake : WakeSet) (turns : ℕ) (g : Shape) (old new : WorldState) (words after : List ℕ)
    (graph : old.net.graph ≡ g) (wakes : old.wake ≡ wake) (is : words ≡ seeded seed)
    (run : HasRunBy kind r turns old new words after) (ok : IsGraph new.net.graph)
    (under : IsRunUnder r (wakers new) (network_of new.net.graph) new.net.trace) where
  same : new.net.graph ≡ g
  same = run.graph ∙ graph

  woken : new.wake ≡ wake
  woken = run.wake ∙ wakes

  ran_by : IsRunBy r has_ended kind seed wake turns g new.net.trace
  ran_by = record {
    graph = subst (λ (s : Shape). IsGraph s) same ok;
    run =
        subst (λ (w : WakeSet). IsRunUnder r (may_wake g w) (network_of g) new.net.trace) woken
        (subst (λ (s : Shape). IsRunUnder r (may_wake s new.wake) (network_of s) new.net.trace) same under);
    words = after;
    picked =
        subst (λ (ws : List ℕ). IsPickedBy kind r (may_wake g wake) g turns ws new.net.trace after) is
        (subst (λ (w : WakeSet). IsPickedBy kind r (may_wake g w) g turns words new.net.trace after) wakes
        (subst (λ (s : Shape). IsPickedBy kind r (may_wake s old.wake) s turns words new.net.trace after) graph run.picked));
  }

  -- where nothing is ready any more it has ended
  pub ended_by : (done : Bool) (o : Result (Unit {0}) RunFault) → o ≡ Ok tt → OnOk o (ready_events r new ≡ []) →
      (IsTrue done ↔ (ready_events r new ≡ [])) →
      (IsTrue done ↔ has_ended new.net.graph (net_after r new.net.graph new.net.trace)) →
      (new.net.graph ≡ g) × IsWholeRun r has_ended kind seed wake turns g new.net.trace × (new.wake ≡ wake)
  ended_by done o end over ready ended =
      let none : ready_events r new ≡ [] = subst (λ (x : Result (Unit {0}) RunFault). OnOk x (ready_events r new ≡ [])) end over in (
        same,
        record {
          by = ran_by;
          ended = subst (λ (s : Shape). has_ended s (net_after r s new.net.trace)) same (ended.0 (ready.1 none));
        },
        woken,
      )

  -- and at the turns, with something ready, it hasn't
  pub stopped_by : (done : Bool) (o : Result (Unit {0}) RunFault) → o ≡ Err TurnLimit → (o ≡ Err TurnLimit → IsAtLimit r turns new) →
      (IsTrue done ↔ (ready_events r new ≡ [])) →
      (IsTrue done ↔ has_ended new.net.graph (net_after r new.net.graph new.net.trace)) →
      (new.net.graph ≡ g) × IsStopped r has_ended kind seed wake turns g new.net.trace × (new.wake ≡ wake)
  stopped_by done o end limit ready ended =
      let at = limit end in
      let some = at.ready in (
        same,
        record {
          by = ran_by;
          used = at.spent;
          more =
              subst (λ (w : WakeSet). 0 < length (lawful_events r (may_wake g w) g new.net.trace)) woken
              (subst (λ (s : Shape). 0 < length (lawful_events r (may_wake s new.wake) s new.net.trace)) same some);
          goes_on = λ over.
              let none : ready_events r new ≡ [] =
              ready.0 (ended.1 (subst (λ (s : Shape). has_ended s (net_after r s new.net.trace)) (sym same) over)) in
              let zero : length (ready_events r new) ≡ 0 = ap length none in
              omega (arith, some, zero);
        },
        woken,
      )
