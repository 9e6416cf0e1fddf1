-- What such a schedule picks is lawful.
use Rattle.std.proofs.Common.{◌≡◌, ℕ, ◌<◌, ◌%◌, Bool, true, not, Some, List, [], ◌∷◌, filter, length, slice_get, arith, ap, subst, inl, inr, ◌⊎◌, refl, sym, ◌∙◌}
use Rattle.std.specs.List.{Contains}
use Rattle.std.proofs.lemmas.Bool.{and_from}
use Rattle.ghs_graph.proofs.lemmas.Members.{in_filter}
use Rattle.peer_network.specs.declared.event.Event.{Event}
use Rattle.peer_network.specs.declared.event.Event.TheVariants.{Wake, Take}
use Rattle.peer_network.specs.Network.{Network, is_port}
use Rattle.ghs_protocol.specs.Net.{Net, is_lawful_under, is_waiting}
use Rattle.peer_network.specs.Events.{event_node}
use Rattle.peer_network.proofs.lemmas.Events.{is_port_of}
use Rattle.ghs_core.specs.NetState.{network}
use Rattle.peer_index.specs.Places.{all_events}
use Rattle.ghs_world.specs.Outs.{Outs, is_out}
use Rattle.ghs_world.specs.Ready.{is_ready, ready_events}
use Rattle.ghs_world.specs.WorldState.{WorldState, home, may_happen, wakers}
use Rattle.peer_schedule.specs.Picks.{IsPick}
use Rattle.peer_schedule.specs.Schedule.{word_of}
use Rattle.ghs_patient.specs.Patience.{or_else, puts_back}
use Rattle.ghs_patient.proofs.lemmas.Picked.{first_there, in_either, picked_in}
use Rattle.ghs_patient.proofs.lemmas.Places.{placed_of}
use Rattle.ghs_orders.specs.Waiting.{waiting_events, waiting_in}

module _ (may : ℕ → Bool) (g : Network) (w : Net) where
  lawful_in : (e : Event) →
      Contains (filter (puts_back w) (all_events g)) e ⊎
      ((filter (puts_back w) (all_events g) ≡ []) × Contains (filter (is_lawful_under may g w) (all_events g)) e) →
      is_lawful_under may g w e ≡ true
  lawful_in e (inr k) = (in_filter (is_lawful_under may g w) (all_events g) e k.1).1
  lawful_in (Wake v) (inl k) = absurd (let t = (in_filter (puts_back w) (all_events g) (Wake v) k).1 in cc)
  lawful_in (Take v p) (inl k) =
      let t = in_filter (puts_back w) (all_events g) (Take v p) k in
      and_from (is_port g v p) (is_waiting (w.queue v p)) (is_port_of g v p (placed_of g (Take v p) t.0)) (first_there (w.node v) p (w.queue v p) t.1)

  pick_is_lawful : (words : List ℕ) (e : Event) → IsPick (waiting_events may g w) words e → is_lawful_under may g w e ≡ true
  pick_is_lawful words e h = lawful_in e (in_either _ _ e (picked_in (waiting_events may g w) words e h))

or_none : (es fs : List Event) → length es ≡ 0 → or_else es fs ≡ fs
or_none [] fs none = refl
or_none (e ∷ es) fs none = absurd (omega (arith, none))

-- where nothing waits, what is picked of the events that are ready is such a pick
pub picked_of_all : (s : WorldState) (words : List ℕ) (count n k : ℕ) (e : Event) →
    s.outs ≡ [] →
    count ≡ length (filter (puts_back (home s)) (all_events (network s.net))) →
    count ≡ 0 →
    n ≡ length (ready_events s) →
    k ≡ word_of words % n →
    k < n →
    slice_get (ready_events s) k ≡ Some e →
    IsPick (waiting_in s) words e
picked_of_all s words count n k e out many none are is within at =
    let all : ready_events s ≡ filter (is_lawful_under (wakers s) (network s.net) (home s)) (all_events (network s.net)) = rw out refl in
    let same : ready_events s ≡ waiting_in s = all ∙ sym (or_none _ _ (sym many ∙ none)) in
    subst (λ es. IsPick es words e) same
    (omega arith, subst (λ i. slice_get (ready_events s) i ≡ Some e) (is ∙ ap (λ m. word_of words % m) are) at)

-- what is picked in a world is ready
pub pick_is_ready : (s : WorldState) (words : List ℕ) (e : Event) → s.outs ≡ [] → IsPick (waiting_in s) words e → is_ready s e ≡ true
pick_is_ready s words e out h =
    and_from (not (is_out s.outs (event_node e))) (may_happen s e) (ap (λ (o : Outs). not (is_out o (event_node e))) out)
    (pick_is_lawful (wakers s) (network s.net) (home s) words e h)
