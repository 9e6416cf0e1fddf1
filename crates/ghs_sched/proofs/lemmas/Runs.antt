-- What a run keeps, whatever its schedule picks.
use Rattle.std.proofs.Common.{◌≡◌, ℕ, ◌+◌, ◌<◌, ◌≤◌, Bool, true, List, [], ◌∷◌, ◌++◌, length, refl, ◌∙◌, ap, subst, arith}
use Rattle.std.proofs.lemmas.Bool.{and_parts, ltb-true}
use Rattle.std.proofs.lemmas.List.{length_push}
use Rattle.ghs_graph.specs.Graph.{Shape}
use Rattle.peer_network.specs.declared.event.Event.{Event}
use Rattle.ghs_protocol.specs.Marks.{HasEnded}
use Rattle.ghs_protocol.specs.Run.{net_after}
use Rattle.ghs_world.specs.Steps.{IsSameWorld, Makes}
use Rattle.peer_network.specs.declared.wake_set.WakeSet.{WakeSet}
use Rattle.peer_network.specs.Wakes.{may_wake}
use Rattle.ghs_world.specs.WorldState.{WorldState, has_turn, home, wakers}
use Rattle.ghs_sched.specs.Picks.{Begun, IsPickedAmong, Offers, Picked}
use Rattle.peer_schedule.specs.Picks.{IsPick}
use Rattle.ghs_sched.specs.Runs.{HasMadeOneOf, HasRunAmong, HasRunBy}

-- it begins with nothing out
pub run_begins : (leads : List Event → List ℕ → Type 0) (s t : WorldState) (words : List ℕ) → leads s.net.trace words → t ≡ record s { outs = [] } →
    HasRunBy leads s t words
run_begins leads s t words begun e = rw e (record { graph = refl; wake = refl; turns = refl; outs = refl; numbers = refl; picked = begun })

-- one event more
pub run_more : (leads : List Event → List ℕ → Type 0) (old s new : WorldState) (used after : List ℕ) (e : Event) → HasRunBy leads old s used →
    Makes s e new → leads (s.net.trace ++ e ∷ []) after →
    HasRunBy leads old new after
run_more leads old s new used after e run made picked =
    let more : length (s.net.trace ++ e ∷ []) ≡ length s.net.trace + 1 = length_push s.net.trace e in
    let numbers = run.numbers in
    let last = made.last in
    record {
      graph = made.graph ∙ run.graph;
      wake = made.wake ∙ run.wake;
      turns = made.turns ∙ run.turns;
      outs = made.outs ∙ run.outs;
      numbers = rw made.trace (omega (arith, more, numbers, last));
      picked = rw made.trace picked;
    }

-- a refusal of memory leaves the run as it was
pub run_stays : (leads : List Event → List ℕ → Type 0) (old s new : WorldState) (used : List ℕ) → HasRunBy leads old s used → IsSameWorld s new →
    HasRunBy leads old new used
run_stays leads old s new used run same = record {
  graph = same.net.graph ∙ run.graph;
  wake = same.wake ∙ run.wake;
  turns = same.turns ∙ run.turns;
  outs = same.outs ∙ run.outs;
  numbers = rw (same.last, same.net.trace) run.numbers;
  picked = rw same.net.trace run.picked;
}

-- what goes on in a world goes on over the graph that its run began with
pub still_going : (old s : WorldState) → s.net.graph ≡ old.net.graph → (HasEnded s.net.graph (home s) → ⊥) →
    HasEnded old.net.graph (net_after old.net.graph s.net.trace) → ⊥
still_going old s graph going = subst (λ (g : Shape). HasEnded g (net_after g s.net.trace) → ⊥) graph going

-- a turn is left
pub turn_left : (old s : WorldState) → s.turns ≡ old.turns → has_turn s ≡ true → length s.net.trace < old.turns
turn_left old s same turn =
    let left : length s.net.trace + length s.outs < s.turns = ltb-true _ _ (and_parts _ _ turn).0 in
    omega (arith, left, same)

-- What a schedule picks among some events.

-- nothing at first
pub among_begins : (offers : Offers) (s t : WorldState) (words : List ℕ) → t ≡ record s { outs = [] } → HasRunAmong offers s t words words
among_begins offers s t words e =
    run_begins (IsPickedAmong offers (wakers s) s.net.graph s.turns s.net.trace words) s t words Begun e

-- one event more
pub among_more : (offers : Offers) (old s new : WorldState) (words used after : List ℕ) → HasRunAmong offers old s words used →
    (HasEnded s.net.graph (home s) → ⊥) → has_turn s ≡ true → HasMadeOneOf (offers (wakers s) s.net.graph s.net.trace) s new used after →
    HasRunAmong offers old new words after
among_more offers old s new words used after run going turn next =
    let same : offers (wakers s) s.net.graph s.net.trace ≡ offers (wakers old) old.net.graph s.net.trace =
    ap (λ (w : WakeSet). offers (may_wake s.net.graph w) s.net.graph s.net.trace) run.wake
    ∙ ap (λ (g : Shape). offers (may_wake g old.wake) g s.net.trace) run.graph in
    run_more (IsPickedAmong offers (wakers old) old.net.graph old.turns old.net.trace words) old s new used after next.event run next.made
    (rw next.rest (Picked s.net.trace used next.event run.picked (still_going old s run.graph going) (turn_left old s run.turns turn)
    (subst (λ es. IsPick es used next.event) same next.pick)))

-- no more than there are turns
pub picked_within : (offers : Offers) (may : ℕ → Bool) (g : Shape) (turns : ℕ) (trace : List Event) (words : List ℕ) (es : List Event) (s : List ℕ) →
    IsPickedAmong offers may g turns trace words es s → length trace ≤ turns → length es ≤ turns
picked_within offers may g turns trace words _ _ Begun few = few
picked_within offers may g turns trace words _ _ (Picked es s e before goes less pick) few =
    let more : length (es ++ e ∷ []) ≡ length es + 1 = length_push es e in omega (arith, more, less)
