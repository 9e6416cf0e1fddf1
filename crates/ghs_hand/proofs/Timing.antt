-- A run by rounds comes to its end, or stops before.
use Rattle.std.proofs.Common.{◌≡◌, ℕ, ◌+◌, ◌≤◌, ◌^◌, List, Result, Ok, Err, length, ap, arith, subst, sym, ⊎_elim}
use Rattle.std.specs.Prelude.{◌⊎◌, IfErr, IfOk, OnErr}
use Rattle.ghs_graph.specs.Graph.{Shape}
use Rattle.peer_network.specs.declared.wake_set.WakeSet.{WakeSet}
use Rattle.peer_network.specs.Wakes.{may_wake}
use Rattle.ghs_protocol.specs.Marks.{HasEnded}
use Rattle.ghs_protocol.specs.Run.{net_after}
use Rattle.ghs_rounds.specs.Runs.{HasRun, IsPickedByRounds}
use Rattle.ghs_sched.specs.Runs.{EndsFor, IsEnd}
use Rattle.ghs_sched.specs.declared.fault.RunFault.{RunFault}
use Rattle.ghs_sched.specs.declared.fault.RunFault.TheVariants.{TurnLimit}
use Rattle.ghs_sched.specs.declared.run.RunEnd.{RunEnd}
use Rattle.ghs_sched.specs.declared.run.RunEnd.TheVariants.{Halted}
use Rattle.ghs_world.specs.WorldState.{WorldState, home}
use Rattle.peer_schedule.specs.Schedule.{seeded}
use Rattle.peer_texts.specs.declared.trace.TheConstants.{EVENT_LIMIT}
use Rattle.ghs_hand.specs.Timed.{IsByRounds, IsCut, IsTimed}

module _ (wake : WakeSet) (g : Shape) (seed : ℕ) (old new : WorldState) (words after : List ℕ) (n : ℕ) (graph : old.net.graph ≡ g)
    (wakes : old.wake ≡ wake) (turns : old.turns ≡ EVENT_LIMIT) (is : words ≡ seeded seed) (run : HasRun old new words after n) where
  goes : IsByRounds wake g seed new.net.trace n
  goes = (after, rw (graph, wakes, turns, is) at run.picked)

  same : new.net.graph ≡ g
  same = rw graph at run.graph

  pub timed : (o : Result RunEnd RunFault) (e : RunEnd) → o ≡ Ok e → IfOk o (λ x. IsEnd new x) → IsTimed wake g seed new.net.trace n
  timed o e end ends = record { picked = goes; ended = by_end e (subst (λ (x : Result RunEnd RunFault). IfOk x (λ y. IsEnd new y)) end ends) }
    where
      by_end : (e : RunEnd) → IsEnd new e → HasEnded g (net_after g new.net.trace)
      by_end (Halted v) h = subst (λ (s : Shape). HasEnded s (net_after s new.net.trace)) same h.0

  -- there are fewer turns than numbers of tickets, so it is the turns that are used
  pub cut : (o : Result RunEnd RunFault) → o ≡ Err TurnLimit → IfErr o (λ x. EndsFor new x) → OnErr o (HasEnded new.net.graph (home new) → ⊥) →
      old.last ≡ 0 → (limit outs : ℕ) → length new.net.trace + outs ≤ limit → limit ≤ 2 ^ 40 →
      IsCut wake g seed new.net.trace n
  cut o end ends goes_on first limit outs fits few =
      let used : EndsFor new TurnLimit = subst (λ (x : Result RunEnd RunFault). IfErr x (λ y. EndsFor new y)) end ends in
      let on : HasEnded new.net.graph (home new) → ⊥ =
      subst (λ (x : Result RunEnd RunFault). OnErr x (HasEnded new.net.graph (home new) → ⊥)) end goes_on in
      let most : new.turns ≡ EVENT_LIMIT = rw turns at run.turns in
      let numbers : new.last ≡ old.last + length new.net.trace = run.numbers in
      record {
        picked = goes;
        used = ⊎_elim (λ (all : length new.net.trace ≡ new.turns). omega (arith, all, most))
            (λ (large : 18446744073709551615 ≤ new.last). absurd (omega arith)) used;
        goes_on = λ ended. on (subst (λ (s : Shape). HasEnded s (net_after s new.net.trace)) (sym same) ended);
      }
