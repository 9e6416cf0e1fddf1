-- What a run by round robin keeps, and where it ends.
use Rattle.std.proofs.Common.{◌≡◌, ℕ, ◌+◌, ◌*◌, ◌≤◌, true, false, List, [], length, sym, ap, subst, subst₂, arith}
use Rattle.std.proofs.lemmas.Bool.{and_from, both_ways, lt-ltb}
use Rattle.ghs_graph.specs.Bound.{IsBound}
use Rattle.ghs_graph.specs.Graph.{Shape, IsGraph}
use Rattle.peer_network.specs.declared.event.Event.{Event}
use Rattle.peer_network.specs.declared.wake_set.WakeSet.{WakeSet}
use Rattle.peer_network.specs.Network.{network_of}
use Rattle.peer_network.specs.Wakes.{may_wake}
use Rattle.peer_network.proofs.lemmas.Waking.{each_is_woken}
use Rattle.ghs_protocol.specs.Marks.{HasEnded}
use Rattle.ghs_protocol.specs.Run.{net_after}
use Rattle.ghs_protocol.specs.Schedules.{PatienceLasts}
use Rattle.ghs_world.specs.WorldState.{WorldState, has_turn, home, wakers}
use Rattle.ghs_sched.specs.Runs.{HasRunBy}
use Rattle.ghs_sched.proofs.lemmas.Runs.{run_more, still_going, turn_left}
use Rattle.ghs_patient.specs.Keeping.{HasGone, HasGoneOn}
use Rattle.ghs_patient.proofs.lemmas.Gone.{gone_run}
use Rattle.ghs_orders.proofs.TurnCounting.{events_few}
use Rattle.ghs_orders.proofs.Cutting.{laps_few}
use Rattle.ghs_orders.proofs.Lasting.{events_fewer}
use Rattle.ghs_orders.specs.Laps.{laps_in}
use Rattle.ghs_orders.specs.Picks.{Begun, IsPickedInTurn, Picked, most_events}
use Rattle.ghs_orders.specs.RoundRobinRuns.{HasFewLaps, HasRun, HasTurns, IsShort}
use Rattle.ghs_orders.specs.Turns.{IsNextInTurn, place_behind}
use Rattle.ghs_orders.specs.Worlds.{IsNext}

-- whatever the words
abbrev pub is_next : WorldState → List ℕ → Event → List ℕ → Type 0
is_next s words e after = IsNext s e

module _ (old : WorldState) where
  abbrev leads : List Event → List ℕ → Type 0
  leads es words = IsPickedInTurn (wakers old) old.net.graph old.turns es

  -- one event more
  one_more : (s new : WorldState) (used after : List ℕ) → HasRunBy leads old s used → (HasEnded s.net.graph (home s) → ⊥) → has_turn s ≡ true →
      HasGoneOn is_next s new used after → HasRunBy leads old new after
  one_more s new used after run going turn on =
      let P : Shape → WakeSet → Type 0 = λ (g : Shape) (w : WakeSet).
      IsNextInTurn (may_wake g w) (network_of g) (net_after g s.net.trace) (place_behind (network_of g) s.net.trace) on.event in
      run_more leads old s new used after on.event run on.made
      (Picked s.net.trace on.event run.picked (still_going old s run.graph going) (turn_left old s run.turns turn)
      (subst₂ P run.graph run.wake on.next))

  -- the whole run
  pub run_in_turn : (words : List ℕ) → old.net.trace ≡ [] → {new : WorldState} {after : List ℕ} →
      HasGone is_next (record old { outs = [] }) words new after → HasRun old new
  run_in_turn words none gone =
      let begun : leads old.net.trace words = rw none Begun in
      let run = gone_run is_next old words leads begun one_more gone in
      record { graph = run.graph; wake = run.wake; turns = run.turns; outs = run.outs; numbers = run.numbers; picked = run.picked }

  module _ (new : WorldState) (graph : IsGraph old.net.graph) (run : HasRun old new) where
    pub has_few_laps : HasFewLaps new
    has_few_laps = subst
        (λ (h : Shape). (b : ℕ) → IsBound h.nodes (length h.keys) b → laps_in (network_of h) new.net.trace ≤ 2 * (b + h.nodes))
        (sym run.graph) (λ b bound. laps_few (wakers old) old.net.graph graph old.turns run.picked b bound)

    pub is_short : IsShort new
    is_short = subst
        (λ (h : Shape). (b : ℕ) → IsBound h.nodes (length h.keys) b → length new.net.trace ≤ most_events h b)
        (sym run.graph) (λ b bound. events_few (wakers old) old.net.graph graph old.turns run.picked b bound)

    -- where there were turns enough one is left as long as the run goes on
    pub turns_left : PatienceLasts → (HasEnded new.net.graph (home new) → ⊥) → has_turn new ≡ false → HasTurns old → ⊥
    turns_left lasts going none enough =
        let lt =
        events_fewer (wakers old) old.net.graph graph old.turns lasts (each_is_woken old.net.graph old.wake graph) run.picked
        (still_going old new run.graph going) enough.bound enough.is in
        let turns = enough.turns in
        let numbers = enough.numbers in
        let used = run.numbers in
        let same = run.turns in
        let home : length new.outs ≡ 0 = ap length run.outs in
        both_ways (has_turn new) none (and_from _ _ (lt-ltb (length new.net.trace + length new.outs) new.turns (omega (arith, lt, turns, same, home)))
        (lt-ltb new.last 18446744073709551615 (omega (arith, lt, numbers, used))))
