-- What a seeded run keeps.
use Rattle.std.proofs.Common.{◌≡◌, inr, ℕ, ◌%◌, ◌<◌, ◌≤◌, true, List, [], length, Some, slice_get, refl, sym, ◌∙◌, ap, ap₂, subst, arith}
use Rattle.std.specs.List.{Contains}
use Rattle.std.proofs.lemmas.List.{nil_from_length}
use Rattle.std.proofs.lemmas.List.Elements.{Contains-get_or}
use Rattle.std.proofs.lemmas.Option.{get_or_from_slice_get, slice_get_within}
use Rattle.ghs_graph.specs.Graph.{Shape}
use Rattle.ghs_graph.proofs.lemmas.Members.{in_filter}
use Rattle.peer_network.specs.declared.event.Event.{Event}
use Rattle.peer_index.specs.Places.{all_events}
use Rattle.peer_network.specs.declared.wake_set.WakeSet.{WakeSet}
use Rattle.peer_network.specs.Wakes.{may_wake}
use Rattle.peer_schedule.specs.Picks.{IsPick}
use Rattle.peer_schedule.specs.Schedule.{next_of, word_of}
use Rattle.peer_machine.specs.Rules.{Rules}
use Rattle.peer_net.specs.NetState.{network}
use Rattle.peer_runs.specs.Lawful.{lawful_events}
use Rattle.peer_runs.specs.WorldState.{WorldState, wakers, is_ready, ready_events, HasPlayed}
use Rattle.peer_runs.specs.Picks.{Begun, Picked}
use Rattle.peer_runs.specs.Runs.{HasPlayedNext, HasRun, IsWhole}

module _ {S M : Type 0} (r : Rules S M) where
  -- nothing has happened at first
  pub run_begins : (turns : ℕ) (s : WorldState) (words : List ℕ) → HasRun r turns s s words words
  run_begins turns s words = record { graph = refl; wake = refl; picked = Begun }

  -- the events that are lawful, in the words with which the run began
  same_events : (turns : ℕ) (old s : WorldState) (words used : List ℕ) → HasRun r turns old s words used →
      ready_events r s ≡ lawful_events r (wakers old) old.net.graph s.net.trace
  same_events turns old s words used run =
      ap (λ (w : WakeSet). lawful_events r (may_wake s.net.graph w) s.net.graph s.net.trace) run.wake
      ∙ ap (λ (g : Shape). lawful_events r (may_wake g old.wake) g s.net.trace) run.graph

  -- one event more
  pub run_more : (turns : ℕ) (old s new : WorldState) (words used after : List ℕ) → HasRun r turns old s words used →
      length s.net.trace < turns → HasPlayedNext r s new used after → HasRun r turns old new words after
  run_more turns old s new words used after run left next = record {
    graph = next.played.graph ∙ run.graph;
    wake = next.played.wake ∙ run.wake;
    picked =
        rw (next.played.trace, next.rest)
        (Picked s.net.trace used next.event run.picked left
        (subst (λ (es : List Event). IsPick es used next.event) (same_events turns old s words used run) next.pick));
  }

  -- where none is ready any more, it is whole
  pub is_whole : (turns : ℕ) (old s : WorldState) (words used : List ℕ) → HasRun r turns old s words used → ready_events r s ≡ [] →
      IsWhole r turns old s words used
  is_whole turns old s words used run none = record {
    picked = run.picked;
    over = inr (sym (same_events turns old s words used run) ∙ none);
  }

  -- what is picked of the events that are ready is ready
  pub pick_is_ready : (s : WorldState) (k : ℕ) (e : Event) → slice_get (ready_events r s) k ≡ Some e → is_ready r s e ≡ true
  pick_is_ready s k e h = (in_filter (is_ready r s) (all_events (network s.net)) e has).1
    where
      has : Contains (ready_events r s) e
      has = subst (λ x. Contains (ready_events r s) x) (get_or_from_slice_get (ready_events r s) k e e h)
          (Contains-get_or (ready_events r s) k e (slice_get_within (ready_events r s) k e h))

  -- the event at the place that a word gives
  pub played_next : (old new : WorldState) (words rest after : List ℕ) (n place : ℕ) (e : Event) → rest ≡ words →
      n ≡ length (ready_events r old) → place ≡ word_of rest % n → place < n → slice_get (ready_events r old) place ≡ Some e →
      HasPlayed r old e new → after ≡ next_of rest → HasPlayedNext r old new words after
  played_next old new words rest after n place e copied many is lt at played next = record {
    event = e;
    pick = (
      omega (arith, many, lt),
      subst (λ k. slice_get (ready_events r old) k ≡ Some e) (is ∙ ap₂ (λ (ws : List ℕ) m. word_of ws % m) copied many) at,
    );
    played = played;
    rest = next ∙ ap next_of copied;
  }

  -- where none is counted, none is ready
  pub none_ready : (s : WorldState) (n : ℕ) → n ≡ length (ready_events r s) → n ≤ 0 → ready_events r s ≡ []
  none_ready s n many none = nil_from_length (ready_events r s) (omega (arith, many, none))
