-- What an event of a round leaves of the choices, and what it makes of the round.
use Rattle.std.proofs.Common.{◌≡◌, ℕ, suc, ◌<◌, ◌≤◌, Bool, ◌&&◌, List, length, refl, sym, ◌∙◌, ap, ap₂, subst, subst₂, ⊎_elim, inl}
use Rattle.std.specs.List.{All, Contains, slice_get}
use Rattle.std.proofs.lemmas.List.Elements.{Contains-append_left, Contains-append_right, Contains-append_cases}
use Rattle.ghs_flags.specs.Flags.{at}
use Rattle.ghs_graph.specs.Graph.{Shape, IsGraph}
use Rattle.ghs_graph.specs.Ports.{ports_of}
use Rattle.ghs_node.specs.declared.delta.Delta.{Delta}
use Rattle.ghs_node.specs.declared.head.Head.{Head}
use Rattle.ghs_node.specs.declared.message.Message.{Message}
use Rattle.ghs_node.specs.Words.{is_sleeping}
use Rattle.peer_network.specs.declared.event.Event.{Event}
use Rattle.peer_network.specs.declared.event.Event.TheVariants.{Wake, Take}
use Rattle.peer_network.specs.Events.{event_node}
use Rattle.peer_network.specs.Network.{network_of}
use Rattle.ghs_protocol.specs.Run.{IsRun}
use Rattle.ghs_core.specs.NetState.{IsAnswer, network}
use Rattle.peer_index.specs.Places.{HasPlace, place}
use Rattle.peer_index.proofs.lemmas.Marks.{is_for, mark_is}
use Rattle.peer_network.specs.declared.wake_set.WakeSet.{WakeSet}
use Rattle.ghs_world.specs.Steps.{Makes}
use Rattle.peer_network.specs.Wakes.{may_wake}
use Rattle.ghs_world.specs.WorldState.{WorldState, home}
use Rattle.peer_chains.specs.Chains.{Chains}
use Rattle.ghs_following.specs.Chains.{chains_of, reacted}
use Rattle.peer_chains.specs.Kept.{Fits, seen}
use Rattle.ghs_following.specs.Kept.{AreChains}
use Rattle.peer_chains.proofs.lemmas.Bounding.{IsWithin}
use Rattle.peer_chains.proofs.lemmas.Fitting.{fits_kept}
use Rattle.ghs_following.proofs.lemmas.Following.{chains_of_more}
use Rattle.ghs_patient.specs.Choices.{IsStirred, far_takes}
use Rattle.ghs_patient.proofs.lemmas.Stirring.{same_back, same_moves}
use Rattle.ghs_rounds.specs.Choices.{AreByRound, AreChoices, AreChoicesBut, AreFor, AreRounds, ChoicesState, HasHeard, IsPast, RoundsState, hides_in, moves_in}
use Rattle.ghs_rounds.specs.Rounds.{hides_due, is_by, is_due, has_due_second, moves_due}
use Rattle.ghs_patient.proofs.lemmas.Walks.{far_places}
use Rattle.ghs_rounds.proofs.Sending.{IsTimely, chains_leave, kept_below, reacted_timely}

module _ (s t : WorldState) (e : Event) (d : Delta) (x y : RoundsState) (are : AreRounds s x) (made : Makes s e t) (answer : IsAnswer s.net e d)
    (heard : HasHeard s e d x y) where
  abbrev before : Head
  before = ((home s).node (event_node e)).head

  same_queue : (u q : ℕ) → (IsStirred (network s.net) e before d (Take u q) → ⊥) → (seen y.clock.kept).queue u q ≡ (seen x.clock.kept).queue u q
  same_queue u q none =
      ap (λ (c : Chains). c.queue u q) heard.chains ∙ chains_leave (network s.net) (home s) e d (seen x.clock.kept) u q (λ k. none (inl k))

  same_due : (f : Event) → (IsStirred (network s.net) e before d f → ⊥) →
      is_due (seen y.clock.kept) y.clock.round f ≡ is_due (seen x.clock.kept) x.clock.round f
  same_due (Wake u) none = refl
  same_due (Take u q) none = ap₂ (λ (r : ℕ) (l : List ℕ). is_by r (slice_get l 0)) heard.round (same_queue u q none)

  same_second : (f : Event) → (IsStirred (network s.net) e before d f → ⊥) →
      has_due_second (seen y.clock.kept) y.clock.round f ≡ has_due_second (seen x.clock.kept) x.clock.round f
  same_second (Wake u) none = refl
  same_second (Take u q) none = ap₂ (λ (r : ℕ) (l : List ℕ). is_by r (slice_get l 1)) heard.round (same_queue u q none)

  abbrev Moves : Shape → WakeSet → Type 0
  Moves g wake = (f : Event) → HasPlace (network_of g) f → (IsStirred (network_of g) e before d f → ⊥) →
      at x.choices.moving.marks (place (network_of g) f) ≡ moves_due (may_wake g wake) (network_of g) (home t) (seen y.clock.kept) y.clock.round f

  abbrev Hides : Shape → Type 0
  Hides g = (f : Event) → HasPlace (network_of g) f → (IsStirred (network_of g) e before d f → ⊥) →
      at x.choices.hidden.marks (place (network_of g) f) ≡ hides_due (home t) (seen y.clock.kept) y.clock.round f

  moves : Moves s.net.graph s.wake
  moves f there none =
      mark_is (network s.net) (moves_in s x.clock) x.choices.moving f are.choices.moving there
      ∙ sym (ap₂ (λ (a b : Bool). a && b)
      (same_moves (network s.net) (may_wake s.net.graph s.wake) (home s) (home t) e d made.event answer f none) (same_due f none))

  hides : Hides s.net.graph
  hides f there none =
      mark_is (network s.net) (hides_in s x.clock) x.choices.hidden f are.choices.hidden there
      ∙ sym (ap₂ (λ (a b : Bool). a && b)
      (same_back (network s.net) (may_wake s.net.graph s.wake) (home s) (home t) e d made.event answer f none) (same_second f none))

  fits : AreFor (network s.net) x.choices
  fits = record {
    moving = is_for (network s.net) (moves_in s x.clock) x.choices.moving are.choices.moving;
    hidden = is_for (network s.net) (hides_in s x.clock) x.choices.hidden are.choices.hidden;
  }

  pub keeps : AreChoicesBut t y.clock (IsStirred (network t.net) e before d) y.choices
  keeps = rw heard.choices (record {
    for_all = subst (λ (g : Shape). AreFor (network_of g) x.choices) (sym made.graph) fits;
    moving = subst₂ Moves (sym made.graph) (sym made.wake) moves;
    hidden = subst Hides (sym made.graph) hides;
  })

  pub fits_then : Fits t.net.graph y.clock.kept
  fits_then = let P : Shape → Type 0 = λ (g : Shape). Fits g y.clock.kept in
      subst P (sym made.graph) (fits_kept s.net.graph x.clock.kept y.clock.kept heard.places are.chains.fits)

  past_kept : (f : Event) → HasPlace (network s.net) f → (Contains y.fresh f → ⊥) → IsPast y.clock f
  past_kept (Wake u) there none = tt
  past_kept (Take u q) there none =
      let f : Event = Take u q in
      let far = far_takes (network s.net) (event_node e) d.sends in
      let old_not : Contains x.fresh f → ⊥ =
      λ h. none (subst (λ (fs : List Event). Contains fs f) (sym heard.fresh) (Contains-append_left x.fresh far f h)) in
      let far_not : Contains far f → ⊥ =
      λ h. none (subst (λ (fs : List Event). Contains fs f) (sym heard.fresh) (Contains-append_right x.fresh far f h)) in
      let below = kept_below (network s.net) (home s) e d (seen x.clock.kept) x.clock.round u q far_not (are.past f there old_not) in
      rw (heard.round, heard.chains) below

  module _ (graph : IsGraph s.net.graph) (is_run : IsRun (network s.net) s.net.trace) (low : 1 ≤ event_node e)
      (high : event_node e ≤ s.net.graph.nodes) (ports : All (λ (m : ℕ × Message). m.0 < length (ports_of s.net.graph.keys (event_node e))) d.sends)
      (timely : IsTimely (seen x.clock.kept) x.clock.round e (is_sleeping before.phase) d.fate) (new : ChoicesState)
      (right : AreChoices t y.clock new) where
    chains : AreChains t.net y.clock.kept
    chains = record {
      fits = fits_then;
      same =
          heard.chains ∙ ap (reacted (network s.net) (home s) e d) are.chains.same ∙ sym (chains_of_more s.net e d (home t) is_run made.event answer)
          ∙ ap (λ (es : List Event). chains_of (network s.net) es) (sym made.trace)
          ∙ ap (λ (g : Shape). chains_of (network_of g) t.net.trace) (sym made.graph);
    }

    by_round : AreByRound y.clock
    by_round =
        let within : IsWithin x.clock.round (suc x.clock.round) (seen x.clock.kept) =
        record { node = are.by_round.node; queue = are.by_round.queue } in
        let out = reacted_timely (network s.net) (home s) e d x.clock.round (seen x.clock.kept) within timely in
        record { node = λ v. rw (heard.round, heard.chains) (out.node v); queue = λ v p. rw (heard.round, heard.chains) (out.queue v p) }

    places : (f : Event) → Contains y.fresh f → HasPlace (network s.net) f
    places f h = ⊎_elim (are.places f) (far_places s.net.graph (event_node e) graph low high d.sends ports f)
        (Contains-append_cases x.fresh (far_takes (network s.net) (event_node e) d.sends) f
        (subst (λ (fs : List Event). Contains fs f) heard.fresh h))

    pub next_are : AreRounds t (record { clock = y.clock; choices = new; fresh = y.fresh })
    next_are = record {
      chains = chains;
      by_round = by_round;
      choices = right;
      places = λ f h. rw made.graph (places f h);
      past = λ f there none. past_kept f (rw made.graph at there) none;
    }
