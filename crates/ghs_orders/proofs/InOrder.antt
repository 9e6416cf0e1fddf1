-- The order of places: by node, a node's Wake before its Takes, ports rising.
use Rattle.std.proofs.Common.{◌≡◌, ◌≢◌, ℕ, zero, suc, ◌+◌, ◌-◌, ◌<◌, ◌≤◌, nat_lt, length, refl, sym, ◌∙◌, ap, ⊎_elim, arith}
use Rattle.std.proofs.lemmas.Bool.{cases_lt, le-ltb, lt-ltb}
use Rattle.peer_network.specs.declared.event.Event.{Event}
use Rattle.peer_network.specs.declared.event.Event.TheVariants.{Wake, Take}
use Rattle.peer_network.specs.Events.{event_node}
use Rattle.peer_network.specs.Network.{Network}
use Rattle.peer_index.specs.Places.{HasPlace, events_to, place}
use Rattle.peer_index.proofs.lemmas.Places.{length_next, longer}
use Rattle.ghs_orders.specs.Turns.{ports_done}

-- two tests of numbers that say the same
same_test : (a b c d : ℕ) → (a < b → c < d) → (b ≤ a → d ≤ c) → nat_lt a b ≡ nat_lt c d
same_test a b c d less more =
    ⊎_elim (λ lt. lt-ltb a b lt ∙ sym (lt-ltb c d (less lt))) (λ le. le-ltb a b le ∙ sym (le-ltb c d (more le))) (cases_lt a b)

module _ (g : Network) where
  -- where the events of a node begin
  abbrev pub start : ℕ → ℕ
  start v = length (events_to g (v - 1))

  pub place_parts : (e : Event) → place g e ≡ start (event_node e) + ports_done e
  place_parts (Wake v) = omega arith
  place_parts (Take v p) = refl

  -- the events of node v end where those of the next one begin
  pub start_next : (v : ℕ) → 1 ≤ v → start (v + 1) ≡ start v + suc (length (g.ports v))
  start_next zero lo = absurd (omega (arith, lo))
  start_next (suc n) lo =
      let l = length_next g n in
      let a : suc n + 1 - 1 ≡ suc n = omega arith in
      let b : suc n - 1 ≡ n = omega arith in
      rw (a, b) l

  pub within : (e : Event) → HasPlace g e → place g e < start (event_node e + 1)
  within (Wake v) h = let l = start_next v h.0 in omega (arith, l)
  within (Take v p) h = let l = start_next v h.some in let lt = h.port in omega (arith, l, lt)

  pub starts_rise : (u v : ℕ) → u ≤ v → start u ≤ start v
  starts_rise u v le = longer g (v - 1) (u - 1) (omega (arith, le))

  -- an event stands before those of later nodes
  pub by_node : (e f : Event) → HasPlace g e → event_node e < event_node f → place g e < place g f
  by_node e f h lt =
      let a = within e h in
      let b = starts_rise (event_node e + 1) (event_node f) (omega (arith, lt)) in
      let c = place_parts f in
      omega (arith, a, b, c)

  -- what stands where the events of node v begin, or later, is of v or of a later node
  pub node_from : (v : ℕ) (f : Event) → HasPlace g f → start v ≤ place g f → v ≤ event_node f
  node_from v f h le = ⊎_elim
      (λ (lt : event_node f < v).
      let a = within f h in let b = starts_rise (event_node f + 1) v (omega (arith, lt)) in absurd (omega (arith, a, b, le)))
      (λ ge. ge)
      (cases_lt (event_node f) v)

  pub start_one : start 1 ≡ 0
  start_one = refl

  -- all places lie before where a node behind the last one would begin
  pub start_past : (f : Event) (v : ℕ) → HasPlace g f → event_node f < v → place g f < start v
  start_past f v h lt = let a = within f h in let b = starts_rise (event_node f + 1) v (omega (arith, lt)) in omega (arith, a, b)

  -- which of two events stands before the other: by their nodes, and at one node by their ports
  pub by_ports : (e f : Event) → event_node e ≡ event_node f → nat_lt (ports_done e) (ports_done f) ≡ nat_lt (place g e) (place g f)
  by_ports e f same =
      let a = place_parts e in
      let b = place_parts f in
      let s = ap start same in
      same_test (ports_done e) (ports_done f) (place g e) (place g f) (λ lt. omega (arith, a, b, s, lt)) (λ le. omega (arith, a, b, s, le))

  pub by_nodes : (e f : Event) → HasPlace g e → HasPlace g f → event_node e ≢ event_node f →
      nat_lt (event_node e) (event_node f) ≡ nat_lt (place g e) (place g f)
  by_nodes e f h k other =
      same_test (event_node e) (event_node f) (place g e) (place g f)
      (λ lt. by_node e f h lt)
      (λ le. let lt = by_node f e k (omega (arith, le, other)) in omega (arith, lt))
