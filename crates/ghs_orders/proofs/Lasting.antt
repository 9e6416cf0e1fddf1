-- Until the run has ended an event is next in turn, so a run that goes on has fewer events.
use Rattle.std.proofs.Common.{◌≡◌, ℕ, suc, ◌-◌, ◌<◌, ◌≤◌, Bool, true, false, Option, Some, None, List, [], ◌∷◌, ◌++◌, length, sym, ◌∙◌, ap, ◌⊎◌, inl, inr, ⊎_elim, arith}
use Rattle.std.specs.List.{slice_get}
use Rattle.std.proofs.lemmas.Bool.{both_ways, cases_lt}
use Rattle.std.proofs.lemmas.List.{length_push}
use Rattle.ghs_graph.specs.Bound.{IsBound}
use Rattle.ghs_graph.specs.Graph.{Shape, IsGraph}
use Rattle.peer_network.specs.declared.event.Event.{Event}
use Rattle.peer_network.specs.Network.{Network, network_of}
use Rattle.peer_network.specs.Wakes.{AllMayWake}
use Rattle.peer_network.proofs.lemmas.Events.{if_some}
use Rattle.peer_index.specs.Places.{all_events, place}
use Rattle.peer_index.proofs.lemmas.Lists.{get_some}
use Rattle.peer_index.proofs.lemmas.Places.{only_place, place_within, placed}
use Rattle.ghs_protocol.specs.Marks.{HasEnded}
use Rattle.ghs_protocol.specs.Net.{Net, effect, is_lawful, is_lawful_under}
use Rattle.ghs_protocol.specs.Run.{net_after}
use Rattle.ghs_protocol.specs.Schedules.{PatienceLasts}
use Rattle.ghs_protocol.proofs.lemmas.Events.{happens_so}
use Rattle.ghs_protocol.proofs.lemmas.Runs.{lawful_under}
use Rattle.ghs_orders.proofs.TurnCounting.{events_few}
use Rattle.ghs_orders.proofs.TurnFinding.{FirstOf, NoneOf, search_numbers}
use Rattle.ghs_orders.proofs.Picked.{picked_net}
use Rattle.ghs_patient.proofs.lemmas.Places.{lawful_place}
use Rattle.ghs_orders.specs.Picks.{Begun, IsPickedInTurn, Picked, most_events}
use Rattle.ghs_orders.specs.Turns.{IsFirstFrom, IsNextInTurn, NoneFrom, place_behind}

module _ (may : ℕ → Bool) (g : Network) (w : Net) where
  abbrev passes : Option Event → Bool
  passes None = false
  passes (Some e) = is_lawful_under may g w e

  -- the event at a place may happen
  abbrev passes_at : ℕ → Bool
  passes_at i = passes (slice_get (all_events g) i)

  at_place : (f : Event) → is_lawful_under may g w f ≡ true → passes_at (place g f) ≡ true
  at_place f lawful = ap passes (placed g f (lawful_place may g w f lawful)) ∙ lawful

  first_or_none : (from : ℕ) → ((e : Event) × IsFirstFrom may g w from e) ⊎ NoneFrom may g w from
  first_or_none from = ⊎_elim
      (λ (none : NoneOf passes_at from (length (all_events g) - from)). inr (λ f lawful. ⊎_elim
      (λ lt. lt)
      (λ le.
      let within = place_within g f (lawful_place may g w f lawful) in
      absurd (both_ways (passes_at (place g f)) (none (place g f) le (omega (arith, within, le))) (at_place f lawful)))
      (cases_lt (place g f) from)))
      (λ (x : FirstOf passes_at from (length (all_events g) - from)). inl (found x))
      (search_numbers passes_at from (length (all_events g) - from))
    where
      found : FirstOf passes_at from (length (all_events g) - from) → (e : Event) × IsFirstFrom may g w from e
      found x =
          let lo = x.low in
          let hi = x.high in
          let z = get_some (all_events g) x.number (omega (arith, lo, hi)) in
          let is = (only_place g x.number z.0 z.1).1 in (
            z.0,
            record {
              lawful = ap passes (sym z.1) ∙ x.passes;
              here = omega (arith, lo, is);
              first = λ f lawful le. ⊎_elim
                  (λ (lt : place g f < x.number). absurd (both_ways (passes_at (place g f)) (x.none (place g f) le lt) (at_place f lawful)))
                  (λ ge. omega (arith, ge, is))
                  (cases_lt (place g f) x.number);
            },
          )

  -- where something may happen, something is next
  pub next_is : (from : ℕ) (f : Event) → is_lawful_under may g w f ≡ true → (e : Event) × IsNextInTurn may g w from e
  next_is from f lawful = ⊎_elim
      (λ x. (x.0, inl x.1))
      (λ none. ⊎_elim
      (λ x. (x.0, inr (none, x.1)))
      (λ nothing. absurd (let lt = nothing f lawful in omega (arith, lt)))
      (first_or_none 0))
      (first_or_none from)

-- with more turns it is picked too
more_turns : (may : ℕ → Bool) (g : Shape) (turns more : ℕ) {es : List Event} → turns ≤ more → IsPickedInTurn may g turns es →
    IsPickedInTurn may g more es
more_turns may g turns more le Begun = Begun
more_turns may g turns more le (Picked es e before going turn next) =
    Picked es e (more_turns may g turns more le before) going (omega (arith, turn, le)) next

-- no more events than turns
within_turns : (may : ℕ → Bool) (g : Shape) (turns : ℕ) {es : List Event} → IsPickedInTurn may g turns es → length es ≤ turns
within_turns may g turns Begun = omega arith
within_turns may g turns (Picked es e before going turn next) = let l = length_push es e in omega (arith, l, turn)

module _ (may : ℕ → Bool) (g : Shape) (graph : IsGraph g) (turns : ℕ) (lasts : PatienceLasts) (all : AllMayWake may g) where
  -- something may happen until the run has ended
  some_lawful : {es : List Event} → IsPickedInTurn may g turns es → (HasEnded g (net_after g es) → ⊥) →
      (f : Event) × (is_lawful_under may (network_of g) (net_after g es) f ≡ true)
  some_lawful {es} before going = ⊎_elim
      (λ z. (
        z.0,
        (lawful_under may (network_of g) (net_after g es) z.0).1 (
          z.3,
          if_some (is_lawful (network_of g) (net_after g es) z.0) (effect (network_of g) (net_after g es) z.0) z.1 (happens_so z.2)
              (λ t x. t),
        ),
      ))
      (λ ended. absurd (going ended))
      (lasts g may (net_after g es) (picked_net may g graph turns before) all)

  pub events_fewer : {es : List Event} → IsPickedInTurn may g turns es → (HasEnded g (net_after g es) → ⊥) →
      (b : ℕ) → IsBound g.nodes (length g.keys) b → length es < most_events g b
  events_fewer {es} before going b bound =
      let some = some_lawful before going in
      let next = next_is may (network_of g) (net_after g es) (place_behind (network_of g) es) some.0 some.1 in
      let few = within_turns may g turns before in
      let more : IsPickedInTurn may g (suc turns) (es ++ next.0 ∷ []) =
      Picked es next.0 (more_turns may g turns (suc turns) (omega arith) before) going (omega (arith, few)) next.1 in
      let most = events_few may g graph (suc turns) more b bound in
      let l = length_push es next.0 in
      omega (arith, most, l)
