-- Marked events are found.
use Rattle.std.proofs.Common.{◌≡◌, ◌≢◌, ℕ, zero, suc, ◌+◌, ◌-◌, ◌<◌, ◌≤◌, Bool, true, false, List, [], ◌∷◌, length, map, filter, take, get_or, Option, Some, None, refl, sym, ◌∙◌, ap, ⊎_elim, arith}
use Rattle.std.specs.List.{slice_get, find, list_any, range_with_len}
use Rattle.std.specs.Option.{is_some}
use Rattle.std.proofs.lemmas.Bool.{cases_eq, cases_lt, cases_Bool}
use Rattle.std.proofs.lemmas.List.Sums.{sum_by-cons}
use Rattle.std.proofs.lemmas.Option.{same_Some, slice_get_within}
use Rattle.peer_network.specs.declared.event.Event.{Event}
use Rattle.peer_network.specs.declared.event.Event.TheVariants.{Wake, Take}
use Rattle.peer_network.specs.Events.{event_node}
use Rattle.peer_network.specs.Network.{Network}
use Rattle.ghs_flags.specs.First.{NonePasses}
use Rattle.ghs_flags.specs.Flags.{count, at, one_if, IsFirstFrom}
use Rattle.peer_index.specs.Places.{node_events, events_to, all_events, takes, place, IsPlaced}
use Rattle.peer_index.specs.Index.{IndexState, AreBases, IsOwner, IsIndexOf}
use Rattle.peer_index.proofs.lemmas.Lists.{map_at, any_at, none_any, find_at, find_none, get_some, first_found, none_found}
use Rattle.peer_index.proofs.lemmas.Places.{length_at, take_at, takes_at, takes_only, length_next, longer, node_place, only_place, placed}
use Rattle.peer_index.proofs.lemmas.Marks.{is_for}

-- the k-th mark stands where the k-th event that passes does
pub kth_is : {X : Type 0} (p : X → Bool) (xs : List X) (i k : ℕ) → at (map p xs) i ≡ true → count (take i (map p xs)) ≡ k →
    slice_get (filter p xs) k ≡ slice_get xs i
kth_is p [] zero k up e = cc
kth_is p [] (suc i) k up e = cc
kth_is p (x ∷ xs) zero k up e = rw (up, ← e) refl
kth_is p (x ∷ xs) (suc i) k up e = ⊎_elim
    (λ (t : p x ≡ true).
    let c = sum_by-cons one_if (p x) (take i (map p xs)) in
    let one : one_if (p x) ≡ 1 = ap one_if t in
    let more : k ≡ suc (count (take i (map p xs))) = omega arith in
    rw (t, more) (kth_is p xs i (count (take i (map p xs))) up refl))
    (λ (f : p x ≡ false).
    let c = sum_by-cons one_if (p x) (take i (map p xs)) in
    let none : one_if (p x) ≡ 0 = ap one_if f in
    rw f (kth_is p xs i k up (omega arith)))
    (cases_Bool (p x))

-- where the events of node v stand
pub record Span (g : Network) (bases : List ℕ) (v : ℕ) : Type 0 where
  pub from : get_or bases v 0 ≡ length (events_to g (v - 1))
  pub to : get_or bases (v + 1) 0 ≡ length (events_to g v)
  pub many : length (events_to g v) ≡ length (events_to g (v - 1)) + suc (length (g.ports v))
  pub within : length (events_to g v) ≤ length (all_events g)

pub span : (g : Network) (bases : List ℕ) (v : ℕ) → AreBases g g.count bases → 1 ≤ v → v ≤ g.count → Span g bases v
span g bases zero b lo hi = absurd (omega arith)
span g bases (suc n) b lo hi =
    let down : suc n - 1 ≡ n = omega arith in
    let up : suc n + 1 ≡ suc (suc n) = omega arith in
    record {
      from = rw down (b.base n (omega arith));
      to = rw up (b.base (suc n) hi);
      many = rw down (length_next g n);
      within = longer g g.count (suc n) hi;
    }

module _ (g : Network) (p : Event → Bool) (x : IndexState) (of : IsIndexOf g p x) where
  whole : length x.marks ≡ length (all_events g)
  whole = (is_for g p x of).many

  spans : (v : ℕ) → 1 ≤ v → v ≤ g.count → Span g x.bases v
  spans v lo hi = span g x.bases v of.bases lo hi

  -- the mark of an event of node v
  marked : (v j : ℕ) (e : Event) → 1 ≤ v → v ≤ g.count → slice_get (node_events g v) j ≡ Some e → at x.marks (get_or x.bases v 0 + j) ≡ p e
  marked zero j e lo hi h = absurd (omega arith)
  marked (suc n) j e lo hi h =
      let l = length_at (suc n) (length (g.ports (suc n))) in
      let lt = slice_get_within (node_events g (suc n)) j e h in
      let base = of.bases.base n (omega arith) in
      rw base (ap (λ bs. at bs (length (events_to g n) + j)) of.marks
      ∙ map_at p (all_events g) (length (events_to g n) + j) e (node_place g n j hi (omega arith) ∙ h))

  in_span : (v j : ℕ) (e : Event) → 1 ≤ v → v ≤ g.count → slice_get (node_events g v) j ≡ Some e → get_or x.bases v 0 + j < get_or x.bases (v + 1) 0
  in_span v j e lo hi h =
      let s = spans v lo hi in
      let from = s.from in
      let to = s.to in
      let many = s.many in
      let l = length_at v (length (g.ports v)) in
      let lt = slice_get_within (node_events g v) j e h in
      omega arith

  -- whether an event of node v passes
  pub none_of : (v : ℕ) → 1 ≤ v → v ≤ g.count → NonePasses (at x.marks) (get_or x.bases v 0) (get_or x.bases (v + 1) 0) →
      list_any p (node_events g v) ≡ false
  none_of v lo hi none =
      none_any p (node_events g v) (λ j e h. sym (marked v j e lo hi h) ∙ none (get_or x.bases v 0 + j) (omega arith) (in_span v j e lo hi h))

  pub one_of : (v i : ℕ) → 1 ≤ v → v ≤ g.count → get_or x.bases v 0 ≤ i → i < get_or x.bases (v + 1) 0 → at x.marks i ≡ true →
      list_any p (node_events g v) ≡ true
  one_of v i lo hi from to up =
      let s = spans v lo hi in
      let a = s.from in
      let b = s.to in
      let many = s.many in
      let l = length_at v (length (g.ports v)) in
      let here = get_some (node_events g v) (i - get_or x.bases v 0) (omega arith) in
      let same : get_or x.bases v 0 + (i - get_or x.bases v 0) ≡ i = omega arith in
      any_at p (node_events g v) (i - get_or x.bases v 0) here.0 here.1
      (sym (marked v (i - get_or x.bases v 0) here.0 lo hi here.1) ∙ ap (at x.marks) same ∙ up)

  -- the first Take from port low on
  take_mark : (v q : ℕ) → 1 ≤ v → v ≤ g.count → q < length (g.ports v) → at x.marks (get_or x.bases v 0 + 1 + q) ≡ p (Take v q)
  take_mark v q lo hi lt =
      let same : get_or x.bases v 0 + suc q ≡ get_or x.bases v 0 + 1 + q = omega arith in
      sym (ap (at x.marks) same) ∙ marked v (suc q) (Take v q) lo hi (take_at v (length (g.ports v)) q lt)

  pub no_take : (v low : ℕ) → 1 ≤ v → v ≤ g.count → NonePasses (at x.marks) (get_or x.bases v 0 + 1 + low) (get_or x.bases (v + 1) 0) →
      find p (takes v low (length (g.ports v) - low)) ≡ None
  no_take v low lo hi none = find_none p (takes v low (length (g.ports v) - low)) (λ j e h.
      let here = takes_only v low (length (g.ports v) - low) j e h in
      let s = spans v lo hi in
      let from = s.from in
      let to = s.to in
      let many = s.many in
      let port : low + j < length (g.ports v) = (let lt = here.0 in omega arith) in
      ap p here.1 ∙ sym (take_mark v (low + j) lo hi port) ∙ none (get_or x.bases v 0 + 1 + (low + j)) (omega arith) (omega arith))

  pub past_ports : (v low : ℕ) → 1 ≤ v → v ≤ g.count → get_or x.bases (v + 1) 0 < get_or x.bases v 0 + 1 + low →
      find p (takes v low (length (g.ports v) - low)) ≡ None
  past_ports v low lo hi past = no_take v low lo hi (λ i from to. absurd (omega arith))

  pub one_take : (v low i : ℕ) → 1 ≤ v → v ≤ g.count → get_or x.bases v 0 + 1 + low ≤ i → i < get_or x.bases (v + 1) 0 → at x.marks i ≡ true →
      NonePasses (at x.marks) (get_or x.bases v 0 + 1 + low) i →
      find p (takes v low (length (g.ports v) - low)) ≡ Some (Take v (i - get_or x.bases v 0 - 1))
  one_take v low i lo hi from to up none =
      let s = spans v lo hi in
      let a = s.from in
      let b = s.to in
      let many = s.many in
      let port : i - get_or x.bases v 0 - 1 < length (g.ports v) = omega arith in
      let back : get_or x.bases v 0 + 1 + (i - get_or x.bases v 0 - 1) ≡ i = omega arith in
      let rank : low + (i - get_or x.bases v 0 - 1 - low) ≡ i - get_or x.bases v 0 - 1 = omega arith in
      find_at p (takes v low (length (g.ports v) - low)) (i - get_or x.bases v 0 - 1 - low) (Take v (i - get_or x.bases v 0 - 1))
      (takes_at v low (length (g.ports v) - low) (i - get_or x.bases v 0 - 1 - low) (omega arith) ∙ ap (λ q. Some (Take v q)) rank)
      (sym (take_mark v (i - get_or x.bases v 0 - 1) lo hi port) ∙ ap (at x.marks) back ∙ up)
      (λ j e before h.
      let here = takes_only v low (length (g.ports v) - low) j e h in
      let q : low + j < length (g.ports v) = omega arith in
      ap p here.1 ∙ sym (take_mark v (low + j) lo hi q) ∙ none (get_or x.bases v 0 + 1 + (low + j)) (omega arith) (omega arith))

  -- the first node from low on
  pub no_node : (low : ℕ) → 1 ≤ low → NonePasses (at x.marks) (get_or x.bases low 0) (length x.marks) →
      find (λ (v : ℕ). list_any p (node_events g v)) (range_with_len low (g.count + 1 - low)) ≡ None
  no_node low lo none = none_found (λ v. list_any p (node_events g v)) low (g.count + 1 - low) (λ u from to.
      let hi : u ≤ g.count = omega arith in
      let some : 1 ≤ u = omega arith in
      let s = spans u some hi in
      let a = s.from in
      let b = s.to in
      let within = s.within in
      let all = whole in
      let order = bases_rise low u lo from hi in
      none_of u some hi (λ i l h. none i (omega arith) (omega arith)))
    where
      bases_rise : (low u : ℕ) → 1 ≤ low → low ≤ u → u ≤ g.count → get_or x.bases low 0 ≤ get_or x.bases u 0
      bases_rise low u lo le hi =
          let a = (spans low lo (omega arith)).from in
          let b = (spans u (omega arith) hi).from in
          let l = longer g (u - 1) (low - 1) (omega arith) in
          omega arith

  pub one_node : (low v i : ℕ) → 1 ≤ low → low ≤ g.count + 1 → 1 ≤ v → v ≤ g.count → get_or x.bases low 0 ≤ i → get_or x.bases v 0 ≤ i →
      i < get_or x.bases (v + 1) 0 → at x.marks i ≡ true → NonePasses (at x.marks) (get_or x.bases low 0) i →
      find (λ (u : ℕ). list_any p (node_events g u)) (range_with_len low (g.count + 1 - low)) ≡ Some v
  one_node low v i lo top some hi first from to up none =
      let order : low ≤ v = ⊎_elim
      (λ (lt : v < low). let z = base_low in let b = (spans v some hi).to in let l = longer g (low - 1) v (omega arith) in absurd (omega arith))
      (λ (le : low ≤ v). le) (cases_lt v low) in
      first_found (λ u. list_any p (node_events g u)) low (g.count + 1 - low) v order (omega arith)
      (λ u a b.
      let su = spans u (omega arith) (omega arith) in
      let sv = spans v some hi in
      let uf = su.from in
      let ut = su.to in
      let vf = sv.from in
      let z = base_low in
      let l = longer g (v - 1) u (omega arith) in
      let k = longer g (u - 1) (low - 1) (omega arith) in
      none_of u (omega arith) (omega arith) (λ j m n. none j (omega arith) (omega arith)))
      (one_of v i some hi from to up)
    where
      base_at : (low : ℕ) → 1 ≤ low → low ≤ g.count + 1 → get_or x.bases low 0 ≡ length (events_to g (low - 1))
      base_at zero a b = absurd (omega arith)
      base_at (suc n) a b = (let down : suc n - 1 ≡ n = omega arith in rw down (of.bases.base n (omega arith)))

      base_low : get_or x.bases low 0 ≡ length (events_to g (low - 1))
      base_low = base_at low lo top

-- the event at a place
pub wake_stands : (g : Network) (bases : List ℕ) (v i : ℕ) → AreBases g g.count bases → IsOwner bases i v → i ≡ get_or bases v 0 →
    slice_get (all_events g) i ≡ Some (Wake v)
wake_stands g bases v i b own e =
    let lo = own.node in
    let top = own.last in
    let c = b.count in
    let s = span g bases v b lo (omega arith) in
    let from = s.from in
    ap (slice_get (all_events g)) (e ∙ from) ∙ placed g (Wake v) (lo, omega arith)

pub take_stands : (g : Network) (bases : List ℕ) (v i : ℕ) → AreBases g g.count bases → IsOwner bases i v → (i ≡ get_or bases v 0 → ⊥) →
    slice_get (all_events g) i ≡ Some (Take v (i - get_or bases v 0 - 1))
take_stands g bases v i b own ne =
    let lo = own.node in
    let top = own.last in
    let from = own.from in
    let to = own.to in
    let c = b.count in
    let s = span g bases v b lo (omega arith) in
    let sf = s.from in
    let st = s.to in
    let many = s.many in
    let behind : get_or bases v 0 < i =
    ⊎_elim (λ (lt : get_or bases v 0 < i). lt) (λ (le : i ≤ get_or bases v 0). absurd (ne (omega arith))) (cases_lt (get_or bases v 0) i) in
    let here : i ≡ length (events_to g (v - 1)) + suc (i - get_or bases v 0 - 1) = omega arith in
    ap (slice_get (all_events g)) here ∙ placed g (Take v (i - get_or bases v 0 - 1)) (record { some = lo; node = omega arith; port = omega arith })

-- an event is of the owner of its place, and so placed by that one's base
pub placed_told : (g : Network) (bases : List ℕ) (v i b : ℕ) (e : Event) → AreBases g g.count bases → IsOwner bases i v → b ≡ get_or bases v 0 →
    slice_get (all_events g) i ≡ Some e → IsPlaced g (record { event = e; base = b })
placed_told g bases v i b e are own is here =
    record { event = (only_place g i e here).0; base = is ∙ from ∙ ap (λ (u : ℕ). place g (Wake u)) (sym of) }
  where
    lo : 1 ≤ v
    lo = own.node

    from : get_or bases v 0 ≡ length (events_to g (v - 1))
    from = (let c = are.count in let top = own.last in (span g bases v are lo (omega arith)).from)

    of : event_node e ≡ v
    of = ⊎_elim
        (λ (at : i ≡ get_or bases v 0). ap event_node (same_Some e (Wake v) (sym here ∙ wake_stands g bases v i are own at)))
        (λ (past : i ≢ get_or bases v 0).
        ap event_node (same_Some e (Take v (i - get_or bases v 0 - 1)) (sym here ∙ take_stands g bases v i are own past)))
        (cases_eq i (get_or bases v 0))

pub base_within : (g : Network) (bases : List ℕ) (v : ℕ) → AreBases g g.count bases → 1 ≤ v → v ≤ g.count + 1 →
    get_or bases v 0 ≤ length (all_events g)
base_within g bases zero b lo hi = absurd (omega arith)
base_within g bases (suc n) b lo hi = let base = b.base n (omega arith) in let l = longer g g.count n (omega arith) in omega arith

-- the same, with numbers that equal the bases
module _ (g : Network) (p : Event → Bool) (x : IndexState) (of : IsIndexOf g p x) where
  pub any_told : (v a b : ℕ) (o : Option ℕ) → 1 ≤ v → v ≤ g.count → a ≡ get_or x.bases v 0 → b ≡ get_or x.bases (v + 1) 0 →
      IsFirstFrom x.marks a b o → is_some o ≡ list_any p (node_events g v)
  any_told v a b None lo hi ea eb h = sym (none_of g p x of v lo hi (rw (ea, eb) at h))
  any_told v a b (Some i) lo hi ea eb h = sym (one_of g p x of v i lo hi (rw ea at h.0) (rw eb at h.1) h.2)

  pub past_told : (v low a b : ℕ) → 1 ≤ v → v ≤ g.count → a ≡ get_or x.bases v 0 → b ≡ get_or x.bases (v + 1) 0 → b < a + 1 + low →
      None ≡ find p (takes v low (length (g.ports v) - low))
  past_told v low a b lo hi ea eb lt = sym (past_ports g p x of v low lo hi (rw (ea, eb) at lt))

  pub none_told : (v low a b : ℕ) → 1 ≤ v → v ≤ g.count → a ≡ get_or x.bases v 0 → b ≡ get_or x.bases (v + 1) 0 →
      IsFirstFrom x.marks (a + 1 + low) b None → None ≡ find p (takes v low (length (g.ports v) - low))
  none_told v low a b lo hi ea eb h = sym (no_take g p x of v low lo hi (rw (ea, eb) at h))

  pub take_told : (v low a b i : ℕ) → 1 ≤ v → v ≤ g.count → a ≡ get_or x.bases v 0 → b ≡ get_or x.bases (v + 1) 0 →
      IsFirstFrom x.marks (a + 1 + low) b (Some i) → Some (Take v (i - a - 1)) ≡ find p (takes v low (length (g.ports v) - low))
  take_told v low a b i lo hi ea eb h = rw ea (sym (one_take g p x of v low i lo hi (rw ea at h.0) (rw eb at h.1) h.2 (rw ea at h.3)))

  pub no_node_told : (low a n : ℕ) → 1 ≤ low → a ≡ get_or x.bases low 0 → n ≡ length x.marks → IsFirstFrom x.marks a n None →
      None ≡ find (λ (v : ℕ). list_any p (node_events g v)) (range_with_len low (g.count + 1 - low))
  no_node_told low a n lo ea en h = sym (no_node g p x of low lo (rw (ea, en) at h))

  pub node_told : (low v a n i : ℕ) → 1 ≤ low → low ≤ g.count + 1 → a ≡ get_or x.bases low 0 → IsOwner x.bases i v →
      IsFirstFrom x.marks a n (Some i) → Some v ≡ find (λ (u : ℕ). list_any p (node_events g u)) (range_with_len low (g.count + 1 - low))
  node_told low v a n i lo top ea own h =
      let c = of.bases.count in
      let last = own.last in
      sym (one_node g p x of low v i lo top own.node (omega arith) (rw ea at h.0) own.from own.to h.2 (rw ea at h.3))
