-- What such a run keeps.
use Rattle.std.proofs.Common.{◌≡◌, inr, ℕ, ◌%◌, ◌<◌, true, List, [], length, Some, slice_get, refl, sym, ◌∙◌, ap, subst, ⊎_elim, arith}
use Rattle.std.specs.List.{Contains}
use Rattle.std.proofs.lemmas.List.Elements.{Contains-get_or}
use Rattle.std.proofs.lemmas.Option.{get_or_from_slice_get, slice_get_within}
use Rattle.ghs_graph.specs.Graph.{Shape}
use Rattle.ghs_graph.proofs.lemmas.Members.{in_filter}
use Rattle.peer_network.specs.declared.event.Event.{Event}
use Rattle.peer_network.specs.declared.event.Event.TheVariants.{Wake, Take}
use Rattle.peer_network.specs.Network.{network_of}
use Rattle.peer_network.specs.declared.wake_set.WakeSet.{WakeSet}
use Rattle.peer_network.specs.Wakes.{may_wake}
use Rattle.peer_index.specs.Places.{all_events}
use Rattle.peer_schedule.specs.Picks.{IsPick}
use Rattle.peer_schedule.specs.Schedule.{word_of}
use Rattle.peer_machine.specs.Rules.{Rules}
use Rattle.peer_machine.specs.Run.{net_after}
use Rattle.peer_net.specs.NetState.{network}
use Rattle.peer_runs.specs.Lawful.{lawful_events}
use Rattle.peer_runs.specs.WorldState.{WorldState, wakers, is_ready, ready_events}
use Rattle.peer_picking.specs.Latest.{IsLatest, NoTake}
use Rattle.peer_picking.specs.Newest.{newest_of}
use Rattle.peer_picking.specs.LifoPicks.{Begun, Latest, Picked}
use Rattle.peer_picking.specs.LifoRuns.{HasPlayedNext, HasRun, IsLatestIn, IsNext, IsWhole, NoTakeIn}

module _ {S M : Type 0} (r : Rules S M) where
  -- nothing has happened at first
  pub run_begins : (turns : ℕ) (s : WorldState) (words : List ℕ) → HasRun r turns s s words words
  run_begins turns s words = record { graph = refl; wake = refl; picked = Begun }

  -- what is next may happen
  pub next_is_ready : (s : WorldState) (words : List ℕ) (e : Event) (after : List ℕ) → IsNext r s words e after → is_ready r s e ≡ true
  next_is_ready s words e after = ⊎_elim (λ h. latest_ready e h.0) (λ h. pick_ready h.1)
    where
      latest_ready : (f : Event) → IsLatestIn r s.net f → is_ready r s f ≡ true
      latest_ready (Wake v) l = absurd l
      latest_ready (Take v p) l = l.0

      pick_ready : IsPick (ready_events r s) words e → is_ready r s e ≡ true
      pick_ready pick =
          let k = word_of words % length (ready_events r s) in
          (in_filter (is_ready r s) (all_events (network s.net)) e
          (subst (λ x. Contains (ready_events r s) x) (get_or_from_slice_get (ready_events r s) k e e pick.1)
          (Contains-get_or (ready_events r s) k e (slice_get_within (ready_events r s) k e pick.1)))).1

  -- the event at the place that a word gives
  pub picked_is : (s : WorldState) (words : List ℕ) (n place : ℕ) (e : Event) → n ≡ length (ready_events r s) →
      place ≡ word_of words % n → place < n →
      slice_get (ready_events r s) place ≡ Some e → IsPick (ready_events r s) words e
  picked_is s words n place e many is lt at = (
    omega (arith, many, lt),
    subst (λ k. slice_get (ready_events r s) k ≡ Some e) (is ∙ ap (λ m. word_of words % m) many) at,
  )

  module _ (turns : ℕ) (old s : WorldState) (words used : List ℕ) (run : HasRun r turns old s words used) where
    -- in the words with which the run began
    same_latest : (e : Event) → IsLatestIn r s.net e →
        IsLatest r (network_of old.net.graph) (net_after r old.net.graph s.net.trace) (newest_of r (network_of old.net.graph) s.net.trace) e
    same_latest e l =
        subst (λ (g : Shape). IsLatest r (network_of g) (net_after r g s.net.trace) (newest_of r (network_of g) s.net.trace) e) run.graph l

    same_none : NoTakeIn r s.net → NoTake r (network_of old.net.graph) (net_after r old.net.graph s.net.trace)
    same_none l = subst (λ (g : Shape). NoTake r (network_of g) (net_after r g s.net.trace)) run.graph l

    same_events : ready_events r s ≡ lawful_events r (wakers old) old.net.graph s.net.trace
    same_events =
        ap (λ (w : WakeSet). lawful_events r (may_wake s.net.graph w) s.net.graph s.net.trace) run.wake
        ∙ ap (λ (g : Shape). lawful_events r (may_wake g old.wake) g s.net.trace) run.graph

    -- one event more
    pub run_more : (new : WorldState) (after : List ℕ) → length s.net.trace < turns → HasPlayedNext r s new used after →
        HasRun r turns old new words after
    run_more new after left on = record {
      graph = on.played.graph ∙ run.graph;
      wake = on.played.wake ∙ run.wake;
      picked =
          rw on.played.trace
          (⊎_elim
          (λ l. rw l.1 (Latest s.net.trace used on.event run.picked left (same_latest on.event l.0)))
          (λ l. rw l.2
          (Picked s.net.trace used on.event run.picked left (same_none l.0)
          (subst (λ (es : List Event). IsPick es used on.event) same_events l.1)))
          on.next);
    }

    -- where none is ready any more, it is whole
    pub is_whole : ready_events r s ≡ [] → IsWhole r turns old s words used
    is_whole none = record { picked = run.picked; over = inr (sym same_events ∙ none) }
