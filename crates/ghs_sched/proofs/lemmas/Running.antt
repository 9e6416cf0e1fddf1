-- What a seeded run keeps.
use Rattle.std.proofs.Common.{◌≡◌, ℕ, ◌%◌, ◌<◌, inl, Bool, true, false, List, [], length, Some, slice_get, refl, sym, ◌∙◌, ap, ap₂, subst, arith}
use Rattle.std.specs.List.{Contains}
use Rattle.std.specs.Prelude.{IsTrue, ◌↔◌}
use Rattle.std.proofs.lemmas.Bool.{false≢true}
use Rattle.std.proofs.lemmas.List.Elements.{Contains-get_or}
use Rattle.std.proofs.lemmas.Option.{get_or_from_slice_get, slice_get_within}
use Rattle.ghs_graph.specs.Graph.{Shape}
use Rattle.ghs_graph.proofs.lemmas.Members.{in_filter}
use Rattle.peer_network.specs.declared.event.Event.{Event}
use Rattle.ghs_protocol.specs.Marks.{HasEnded}
use Rattle.ghs_protocol.specs.Run.{net_after}
use Rattle.ghs_core.specs.NetState.{network}
use Rattle.ghs_world.specs.Ready.{is_ready, ready_events}
use Rattle.peer_index.specs.Places.{all_events}
use Rattle.ghs_world.specs.Steps.{IsSameWorld, Makes}
use Rattle.ghs_world.specs.WorldState.{WorldState, has_turn, home, wakers}
use Rattle.ghs_sched.specs.Picks.{IsPicked, lawful_events}
use Rattle.ghs_sched.specs.Runs.{HasMadeNext, HasMadeOneOf, HasRun, IsWhole}
use Rattle.peer_schedule.specs.Schedule.{next_of, word_of}
use Rattle.ghs_sched.proofs.lemmas.Runs as runs

-- with nothing out, what is ready is what is lawful
ready_is_lawful : (s : WorldState) → s.outs ≡ [] → ready_events s ≡ lawful_events (wakers s) s.net.graph s.net.trace
ready_is_lawful s e = rw e refl

-- it begins with nothing out
pub run_begins : (s t : WorldState) (words : List ℕ) → t ≡ record s { outs = [] } → HasRun s t words words
run_begins s t words e = runs.among_begins lawful_events s t words e

-- one event more
pub run_more : (old s new : WorldState) (words used after : List ℕ) →
    HasRun old s words used →
    (HasEnded s.net.graph (home s) → ⊥) →
    has_turn s ≡ true →
    HasMadeNext s new used after →
    HasRun old new words after
run_more old s new words used after run going turn next =
    runs.among_more lawful_events old s new words used after run going turn
    (subst (λ (es : List Event). HasMadeOneOf es s new used after) (ready_is_lawful s run.outs) next)

-- a refusal of memory leaves the run as it was
pub run_stays : (old s new : WorldState) (words used : List ℕ) →
    HasRun old s words used →
    IsSameWorld s new →
    HasRun old new words used
run_stays old s new words used run same =
    runs.run_stays (IsPicked (wakers old) old.net.graph old.turns old.net.trace words) old s new used run same

-- what is picked of the events that are ready is ready
pub pick_is_ready : (s : WorldState) (k : ℕ) (e : Event) → slice_get (ready_events s) k ≡ Some e → is_ready s e ≡ true
pick_is_ready s k e h = (in_filter (is_ready s) (all_events (network s.net)) e has).1
  where
    has : Contains (ready_events s) e
    has = subst (λ x. Contains (ready_events s) x) (get_or_from_slice_get (ready_events s) k e e h)
        (Contains-get_or (ready_events s) k e (slice_get_within (ready_events s) k e h))

-- the event at the place that a word gives
pub made_next : (old new : WorldState) (words rest after : List ℕ) (n place : ℕ) (e : Event) →
    rest ≡ words →
    n ≡ length (ready_events old) →
    place ≡ word_of rest % n →
    place < n →
    slice_get (ready_events old) place ≡ Some e →
    Makes old e new →
    after ≡ next_of rest →
    HasMadeNext old new words after
made_next old new words rest after n place e copied many is lt at made next = record {
  event = e;
  pick = (
    omega arith,
    subst (λ k. slice_get (ready_events old) k ≡ Some e) (is ∙ ap₂ (λ (ws : List ℕ) m. word_of ws % m) copied many) at,
  );
  made = made;
  rest = next ∙ ap next_of copied;
}

-- a test that says no, of what it tells
pub not_so : {P : Type 0} (b : Bool) → (IsTrue b ↔ P) → b ≡ false → P → ⊥
not_so b tells f h = false≢true (sym f ∙ tells.1 h)

-- where the run has ended, it is whole
pub is_whole : (old s : WorldState) (words used : List ℕ) →
    HasRun old s words used →
    HasEnded s.net.graph (home s) →
    IsWhole old s words used
is_whole old s words used run ended = record {
  picked = run.picked;
  over = inl (subst (λ (g : Shape). HasEnded g (net_after g s.net.trace)) run.graph ended);
}

-- the same world has ended as it had
pub same_end : (s new : WorldState) → IsSameWorld s new → HasEnded new.net.graph (home new) → HasEnded s.net.graph (home s)
same_end s new same h = (rw (same.net.graph, same.net.trace) at h)

-- and has a turn left as it had
pub same_turn : (s new : WorldState) → IsSameWorld s new → has_turn s ≡ true → has_turn new ≡ true
same_turn s new same h = rw (same.net.trace, same.outs, same.turns, same.last) h
