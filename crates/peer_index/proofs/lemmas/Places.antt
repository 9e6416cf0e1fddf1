-- Where events stand among all events.
use Rattle.std.proofs.Common.{◌≡◌, ℕ, zero, suc, ◌+◌, ◌-◌, ◌<◌, ◌≤◌, [], ◌∷◌, length, Some, refl, sym, ◌∙◌, ap, subst, ⊎_elim, arith, length-append}
use Rattle.std.specs.List.{slice_get}
use Rattle.std.proofs.lemmas.Bool.{cases_lt}
use Rattle.std.proofs.lemmas.Option.{same_Some, slice_get_within}
use Rattle.peer_network.specs.declared.event.Event.{Event}
use Rattle.peer_network.specs.declared.event.Event.TheVariants.{Wake, Take}
use Rattle.peer_network.specs.Events.{event_node}
use Rattle.peer_network.specs.Sums.{sum_below}
use Rattle.peer_network.specs.Network.{Network}
use Rattle.peer_index.specs.Places.{events_at, node_events, events_to, all_events, takes, HasPlace, place}
use Rattle.peer_index.proofs.lemmas.Lists.{get_left, get_right}

-- the events of one node
pub length_at : (v d : ℕ) → length (events_at v d) ≡ suc d
length_at v zero = refl
length_at v (suc d) = let l = length-append (events_at v d) (Take v d ∷ []) in let r = length_at v d in omega arith

pub wake_at : (v d : ℕ) → slice_get (events_at v d) 0 ≡ Some (Wake v)
wake_at v zero = refl
wake_at v (suc d) = get_left (events_at v d) (Take v d ∷ []) 0 (let l = length_at v d in omega arith) ∙ wake_at v d

pub take_at : (v d q : ℕ) → q < d → slice_get (events_at v d) (suc q) ≡ Some (Take v q)
take_at v zero q lt = absurd (omega arith)
take_at v (suc d) q lt = ⊎_elim
    (λ (below : q < d). get_left (events_at v d) (Take v d ∷ []) (suc q) (let l = length_at v d in omega arith) ∙ take_at v d q below)
    (λ (last : d ≤ q).
    let e : q ≡ d = omega arith in
    let l : suc d ≡ length (events_at v d) + 0 = (let n = length_at v d in omega arith) in
    rw (e, l) (get_right (events_at v d) (Take v d ∷ []) 0))
    (cases_lt q d)

-- the Takes from one port on
length_takes : (v low n : ℕ) → length (takes v low n) ≡ n
length_takes v low zero = refl
length_takes v low (suc n) = let l = length-append (takes v low n) (Take v (low + n) ∷ []) in let r = length_takes v low n in omega arith

pub takes_at : (v low n j : ℕ) → j < n → slice_get (takes v low n) j ≡ Some (Take v (low + j))
takes_at v low zero j lt = absurd (omega arith)
takes_at v low (suc n) j lt = ⊎_elim
    (λ (below : j < n). get_left (takes v low n) (Take v (low + n) ∷ []) j (let l = length_takes v low n in omega arith) ∙ takes_at v low n j below)
    (λ (last : n ≤ j).
    let e : j ≡ n = omega arith in
    let l : j ≡ length (takes v low n) + 0 = (let m = length_takes v low n in omega arith) in
    ap (slice_get (takes v low (suc n))) l ∙ get_right (takes v low n) (Take v (low + n) ∷ []) 0 ∙ ap (λ k. Some (Take v (low + k))) (sym e))
    (cases_lt j n)

pub takes_only : (v low n j : ℕ) (e : Event) → slice_get (takes v low n) j ≡ Some e → (j < n) × (e ≡ Take v (low + j))
takes_only v low n j e h =
    let l = length_takes v low n in
    let lt = slice_get_within (takes v low n) j e h in
    (omega arith, same_Some _ _ (sym h ∙ takes_at v low n j (omega arith)))

module _ (g : Network) where
  pub length_next : (n : ℕ) → length (events_to g (suc n)) ≡ length (events_to g n) + suc (length (g.ports (suc n)))
  length_next n = let l = length-append (events_to g n) (node_events g (suc n)) in let r = length_at (suc n) (length (g.ports (suc n))) in omega arith

  pub length_to : (n : ℕ) → length (events_to g n) ≡ n + sum_below n (λ i. length (g.ports (suc i)))
  length_to zero = refl
  length_to (suc n) = let l = length_next n in let r = length_to n in omega arith

  pub longer : (m n : ℕ) → n ≤ m → length (events_to g n) ≤ length (events_to g m)
  longer zero n le = (let e : n ≡ 0 = omega arith in rw e (omega arith))
  longer (suc m) n le = ⊎_elim
      (λ (below : n < suc m). let r = longer m n (omega arith) in let l = length_next m in omega arith)
      (λ (same : suc m ≤ n). (let e : n ≡ suc m = omega arith in rw e (omega arith)))
      (cases_lt n (suc m))

  -- the events of the first nodes stand in front
  front : (m n i : ℕ) → n ≤ m → i < length (events_to g n) → slice_get (events_to g m) i ≡ slice_get (events_to g n) i
  front zero n i le lt = (let e : n ≡ 0 = omega arith in rw e refl)
  front (suc m) n i le lt = ⊎_elim
      (λ (below : n < suc m).
      let rest = front m n i (omega arith) lt in
      let within = longer m n (omega arith) in
      get_left (events_to g m) (node_events g (suc m)) i (omega arith) ∙ rest)
      (λ (same : suc m ≤ n). (let e : n ≡ suc m = omega arith in rw e refl))
      (cases_lt n (suc m))

  -- the events of node n + 1
  pub node_place : (n j : ℕ) → n < g.count → j < suc (length (g.ports (suc n))) →
      slice_get (all_events g) (length (events_to g n) + j) ≡ slice_get (node_events g (suc n)) j
  node_place n j lt below =
      let l = length_next n in
      front g.count (suc n) (length (events_to g n) + j) (omega arith) (omega arith) ∙ get_right (events_to g n) (node_events g (suc n)) j

  -- each event stands at its place
  pub placed : (e : Event) → HasPlace g e → slice_get (all_events g) (place g e) ≡ Some e
  placed (Wake zero) h = absurd (let lo = h.0 in omega arith)
  placed (Wake (suc n)) h =
      let down : suc n - 1 ≡ n = omega arith in
      let from : length (events_to g n) + 0 ≡ length (events_to g n) = omega arith in
      rw down (sym (ap (slice_get (all_events g)) from) ∙ node_place n 0 h.1 (omega arith) ∙ wake_at (suc n) (length (g.ports (suc n))))
  placed (Take zero p) h = absurd (let lo = h.some in omega arith)
  placed (Take (suc n) p) h =
      let down : suc n - 1 ≡ n = omega arith in
      let port = h.port in
      rw down (node_place n (suc p) h.node (omega arith) ∙ take_at (suc n) (length (g.ports (suc n))) p port)

  pub place_within : (e : Event) → HasPlace g e → place g e < length (all_events g)
  place_within e h = slice_get_within (all_events g) (place g e) e (placed e h)

  -- and nowhere else
  of_node : (n j : ℕ) (e : Event) → n < g.count → slice_get (node_events g (suc n)) j ≡ Some e →
      HasPlace g e × (length (events_to g n) + j ≡ place g e)
  of_node n zero e lt h =
      let down : suc n - 1 ≡ n = omega arith in
      let same : Wake (suc n) ≡ e = same_Some _ _ (sym (wake_at (suc n) (length (g.ports (suc n)))) ∙ h) in
      subst (λ (f : Event). HasPlace g f × (length (events_to g n) + 0 ≡ place g f)) same ((omega arith, lt), rw down (omega arith))
  of_node n (suc q) e lt h =
      let down : suc n - 1 ≡ n = omega arith in
      let l = length_at (suc n) (length (g.ports (suc n))) in
      let within = slice_get_within (node_events g (suc n)) (suc q) e h in
      let port : q < length (g.ports (suc n)) = omega arith in
      let same : Take (suc n) q ≡ e = same_Some _ _ (sym (take_at (suc n) (length (g.ports (suc n))) q port) ∙ h) in
      subst (λ (f : Event). HasPlace g f × (length (events_to g n) + suc q ≡ place g f)) same
      (record { some = omega arith; node = lt; port = port }, rw down refl)

  only_to : (n i : ℕ) (e : Event) → n ≤ g.count → slice_get (events_to g n) i ≡ Some e → HasPlace g e × (i ≡ place g e)
  only_to zero i e le h = cc
  only_to (suc n) i e le h = ⊎_elim
      (λ (before : i < length (events_to g n)). only_to n i e (omega arith) (sym (get_left (events_to g n) (node_events g (suc n)) i before) ∙ h))
      (λ (from : length (events_to g n) ≤ i).
      let up : length (events_to g n) + (i - length (events_to g n)) ≡ i = omega arith in
      let here =
      of_node n (i - length (events_to g n)) e le
      (sym (get_right (events_to g n) (node_events g (suc n)) (i - length (events_to g n))) ∙ ap (slice_get (events_to g (suc n))) up ∙ h) in
      (here.0, sym up ∙ here.1))
      (cases_lt i (length (events_to g n)))

  pub only_place : (i : ℕ) (e : Event) → slice_get (all_events g) i ≡ Some e → HasPlace g e × (i ≡ place g e)
  only_place i e h = only_to g.count i e (omega arith) h

  -- two events have two places
  pub place_apart : (e f : Event) → HasPlace g e → HasPlace g f → place g e ≡ place g f → e ≡ f
  place_apart e f has there same = same_Some e f (sym (placed e has) ∙ ap (slice_get (all_events g)) same ∙ placed f there)

  -- the node of an event has a Wake
  pub of_own_node : (e : Event) → HasPlace g e → HasPlace g (Wake (event_node e))
  of_own_node (Wake v) h = h
  of_own_node (Take v p) h = (h.some, h.node)
