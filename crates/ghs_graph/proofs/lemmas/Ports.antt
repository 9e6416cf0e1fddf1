-- Ports: where each stands, and where it leads.
use Rattle.std.proofs.Common.{◌≡◌, ◌≢◌, ℕ, zero, suc, ◌<◌, ◌≤◌, ◌+◌, ◌⊎◌, inl, inr, ⊎_elim, Bool, true, false, cond, ◌==◌, ◌&&◌, ◌||◌, Some, List, [], ◌∷◌, ◌++◌, length, take, drop, get_or, refl, sym, ◌∙◌, ap, subst, arith, eq-eqb, ne_eqb}
use Rattle.std.specs.List.{All, count_by, filter}
use Rattle.std.proofs.lemmas.Bool.{cases_lt, cases_Bool, eqb-true, or_cases}
use Rattle.std.proofs.lemmas.List.{get_or_default, get_or_at, get_or-map, length-map, take-append-drop, take-take, drop_more, length-append}
use Rattle.std.proofs.lemmas.List.Elements.{All-head, All-tail, filter-append, Contains-get_or}
use Rattle.std.proofs.lemmas.List.Sums.{sum_by-append, sum_by-cons, length-filter, count_by-le-length, sum_by-take-le}
use Rattle.std.proofs.lemmas.Option.{slice_get_within, slice_get-get_or, get_or_from_slice_get}
use Rattle.ghs_graph.specs.declared.key.Key.{Key}
use Rattle.ghs_graph.specs.declared.port.Port.{Port}
use Rattle.ghs_graph.specs.Key.{key_lt, ends_at, no_key}
use Rattle.ghs_graph.specs.Links.{IsRising, AreAmong}
use Rattle.ghs_graph.specs.Ports.{keys_at, degree, port_number, far_end, port_on, ports_of, HasPort}
use Rattle.ghs_graph.specs.Graph.{Shape, IsGraph}
use Rattle.ghs_graph.specs.Laws.{PortsEndElsewhere, PortsLeadBack, PortsRise, HasTwoPorts, LinksHaveTwoPorts}
use Rattle.ghs_graph.proofs.lemmas.Keys.{below_at, none_below}

-- Counts and filters.

count_by-agree : {X : Type 0} (p q : X → Bool) (xs : List X) → All (λ x. p x ≡ q x) xs → count_by p xs ≡ count_by q xs
count_by-agree p q [] h = refl
count_by-agree p q (x ∷ xs) h =
    sum_by-cons (λ y. cond (p y) 1 0) x xs
    ∙ (rw (All-head (λ y. p y ≡ q y) x xs h) (ap (λ n. cond (q x) 1 0 + n) (count_by-agree p q xs (All-tail (λ y. p y ≡ q y) x xs h))))
    ∙ sym (sum_by-cons (λ y. cond (q y) 1 0) x xs)

count_by-never : {X : Type 0} (xs : List X) → count_by (λ x. false) xs ≡ 0
count_by-never [] = refl
count_by-never (x ∷ xs) = count_by-never xs

-- an element of a filtered list, with its place in the whole list
record KeptAt {X : Type 0} (p : X → Bool) (xs : List X) (i : ℕ) (d : X) : Type 0 where
  at : ℕ
  within : at < length xs
  passes : p (get_or xs at d) ≡ true
  same : get_or (filter p xs) i d ≡ get_or xs at d
  before : count_by p (take at xs) ≡ i

kept_later : {X : Type 0} (p : X → Bool) (x : X) (xs : List X) (i : ℕ) (d : X) → p x ≡ true → KeptAt p xs i d → KeptAt p (x ∷ xs) (suc i) d
kept_later p x xs i d e r =
    record {
      at = suc r.at;
      within = let w = r.within in omega arith;
      passes = r.passes;
      same = rw e r.same;
      before = sum_by-cons (λ y. cond (p y) 1 0) x (take r.at xs) ∙ rw (e, r.before) (omega arith);
    }

kept_past : {X : Type 0} (p : X → Bool) (x : X) (xs : List X) (i : ℕ) (d : X) → p x ≡ false → KeptAt p xs i d → KeptAt p (x ∷ xs) i d
kept_past p x xs i d e r =
    record {
      at = suc r.at;
      within = let w = r.within in omega arith;
      passes = r.passes;
      same = rw e r.same;
      before = sum_by-cons (λ y. cond (p y) 1 0) x (take r.at xs) ∙ rw (e, r.before) (omega arith);
    }

kept_at : {X : Type 0} (p : X → Bool) (xs : List X) (i : ℕ) (d : X) → i < length (filter p xs) → KeptAt p xs i d
kept_at p [] i d lt = absurd (omega arith)
kept_at p (x ∷ xs) zero d lt = ⊎_elim
    (λ e. record { at = 0; within = omega arith; passes = e; same = rw e refl; before = refl })
    (λ e. kept_past p x xs 0 d e (kept_at p xs 0 d (rw e at lt)))
    (cases_Bool (p x))
kept_at p (x ∷ xs) (suc i) d lt = ⊎_elim
    (λ e. kept_later p x xs i d e (kept_at p xs i d (let l : suc i < suc (length (filter p xs)) = rw e at lt in omega arith)))
    (λ e. kept_past p x xs (suc i) d e (kept_at p xs (suc i) d (rw e at lt)))
    (cases_Bool (p x))

-- an element that passes stands in the filtered list behind those that pass before it
filtered_at : {X : Type 0} (p : X → Bool) (xs : List X) (m : ℕ) (d : X) → m < length xs → p (get_or xs m d) ≡ true
    → (count_by p (take m xs) < length (filter p xs)) × (get_or (filter p xs) (count_by p (take m xs)) d ≡ get_or xs m d)
filtered_at {X} p xs m d lt e =
    let split : filter p xs ≡ filter p (take m xs) ++ get_or xs m d ∷ filter p (drop (m + 1) xs) = ap (λ (ys : List X). filter p ys)
    (sym (take-append-drop m xs)) ∙ filter-append p (take m xs) (drop m xs) ∙ ap (λ (ys : List X). filter p (take m xs) ++ filter p ys)
    (drop_more xs m d lt) ∙ rw e refl in
    let len : length (filter p (take m xs)) ≡ count_by p (take m xs) = length-filter p (take m xs) in
    rw split (
      omega (arith, len, length-append (filter p (take m xs)) (get_or xs m d ∷ filter p (drop (m + 1) xs))),
      get_or_at (filter p (take m xs)) (get_or xs m d) (filter p (drop (m + 1) xs)) d (count_by p (take m xs)) len,
    )

-- Degrees and places.

pub length-ports_of : (ks : List Key) (v : ℕ) → length (ports_of ks v) ≡ degree ks v
unfolding ports_of degree
length-ports_of ks v = length-map (keys_at ks v) (port_on ks v) ∙ length-filter (ends_at v) ks

pub degree-le-length : (ks : List Key) (v : ℕ) → degree ks v ≤ length ks
unfolding degree
degree-le-length ks v = count_by-le-length (ends_at v) ks

-- among rising keys, those of u that are less than a key are those that stand before it
pub place_at : (ks : List Key) (u i : ℕ) (d : Key) → IsRising ks → i < length ks → port_number ks u (get_or ks i d) ≡ degree (take i ks) u
unfolding degree
place_at ks u i d r lt =
    ap (λ (js : List Key). port_number js u k) (sym (take-append-drop i ks))
    ∙ sum_by-append (λ j. cond (ends_at u j && key_lt j k) 1 0) (take i ks) (drop i ks)
    ∙ (rw (before, after) (omega arith))
  where
    k : Key
    k = get_or ks i d

    both : (x y : Bool) → y ≡ true → (x && y) ≡ x
    both true y e = e
    both false y e = refl

    neither : (x y : Bool) → y ≡ false → (x && y) ≡ false
    neither true y e = e
    neither false y e = refl

    before : count_by (λ j. ends_at u j && key_lt j k) (take i ks) ≡ count_by (ends_at u) (take i ks)
    before =
        count_by-agree (λ j. ends_at u j && key_lt j k) (ends_at u) (take i ks)
        (λ m e ml.
        both (ends_at u (get_or (take i ks) m e)) (key_lt (get_or (take i ks) m e) k)
        (below_at ks i d r lt (get_or (take i ks) m e) (Contains-get_or (take i ks) m e ml)))

    after : count_by (λ j. ends_at u j && key_lt j k) (drop i ks) ≡ 0
    after =
        count_by-agree (λ j. ends_at u j && key_lt j k) (λ j. false) (drop i ks)
        (λ m e ml. neither (ends_at u (get_or (drop i ks) m e)) (key_lt (get_or (drop i ks) m e) k) (none_below ks i d r lt m e ml))
        ∙ count_by-never (drop i ks)

-- Ends.

pub end_cases : (v : ℕ) (k : Key) → ends_at v k ≡ true → (v ≡ k.a) ⊎ (v ≡ k.b)
end_cases v k e = ⊎_elim (λ h. inl (sym (eqb-true k.a v h))) (λ h. inr (sym (eqb-true k.b v h))) (or_cases (k.a == v) (k.b == v) e)

pub ends_a : (k : Key) → ends_at k.a k ≡ true
ends_a k = rw (eq-eqb k.a k.a refl) refl

pub ends_b : (k : Key) → ends_at k.b k ≡ true
ends_b k = rw (eq-eqb k.b k.b refl) (or_true (k.a == k.b))
  where
    or_true : (x : Bool) → (x || true) ≡ true
    or_true true = refl
    or_true false = refl

pub ends_not : (v : ℕ) (k : Key) → v ≢ k.a → v ≢ k.b → ends_at v k ≡ false
ends_not v k na nb = rw (ne_eqb k.a v (λ e. na (sym e)), ne_eqb k.b v (λ e. nb (sym e))) refl

pub far_end_a : (k : Key) → far_end k.a k ≡ k.b
far_end_a k = rw (eq-eqb k.a k.a refl) refl

pub far_end_b : (k : Key) → k.a < k.b → far_end k.b k ≡ k.a
far_end_b k lt = rw (ne_eqb k.a k.b (λ e. absurd (omega arith))) refl

-- what holds of both ends of a link holds of each of its ends
at_ends : (P : ℕ → Type 0) (k : Key) → P k.a → P k.b → (v : ℕ) → ends_at v k ≡ true → P v
at_ends P k at_a at_b v e = ⊎_elim (λ q. subst P (sym q) at_a) (λ q. subst P (sym q) at_b) (end_cases v k e)

-- the far end of an end is the other end, and the other way round
record FarEnd (v : ℕ) (k : Key) : Type 0 where
  ends : ends_at (far_end v k) k ≡ true
  other : far_end v k ≢ v
  back : far_end (far_end v k) k ≡ v

far_end_is : (k : Key) → k.a < k.b → (v : ℕ) → ends_at v k ≡ true → FarEnd v k
far_end_is k lt = at_ends (λ v. FarEnd v k) k
    (record { ends = rw (far_end_a k) (ends_b k); other = rw (far_end_a k) (λ e. absurd (omega arith)); back = rw (far_end_a k) (far_end_b k lt) })
    (record
    { ends = rw (far_end_b k lt) (ends_a k); other = rw (far_end_b k lt) (λ e. absurd (omega arith)); back = rw (far_end_b k lt) (far_end_a k) })

-- Ports.

-- the link at place m is a port of each of its ends
pub port_at : (ks : List Key) (v m : ℕ) (d : Key) → m < length ks → ends_at v (get_or ks m d) ≡ true
    → HasPort ks v (degree (take m ks) v) (port_on ks v (get_or ks m d))
unfolding ports_of degree
port_at ks v m d lt e =
    let f : (count_by (ends_at v) (take m ks) < length (keys_at ks v)) × (get_or (keys_at ks v) (count_by (ends_at v) (take m ks)) d ≡ get_or ks m d)
    = filtered_at (ends_at v) ks m d lt e in
    slice_get-get_or (ports_of ks v) (count_by (ends_at v) (take m ks)) (port_on ks v d)
    (omega (arith, f.0, length-map (keys_at ks v) (port_on ks v)))
    ∙ ap (λ (p : Port). Some p)
    (get_or-map (port_on ks v) (keys_at ks v) (count_by (ends_at v) (take m ks)) d (port_on ks v d) f.0 ∙ ap (port_on ks v) f.1)

pub port_below : (ks : List Key) (v i : ℕ) (p d : Port) → HasPort ks v i p → (i < degree ks v) × (get_or (ports_of ks v) i d ≡ p)
port_below ks v i p d h = (rw (← length-ports_of ks v) (slice_get_within (ports_of ks v) i p h), get_or_from_slice_get (ports_of ks v) i p d h)

-- each port is on a link
pub record OnLink (ks : List Key) (v i : ℕ) (p : Port) : Type 0 where
  pub at : ℕ
  pub within : at < length ks
  pub ends : ends_at v (get_or ks at no_key) ≡ true
  pub port : p ≡ port_on ks v (get_or ks at no_key)
  pub place : degree (take at ks) v ≡ i

pub on_link : (ks : List Key) (v i : ℕ) (p : Port) → HasPort ks v i p → OnLink ks v i p
unfolding ports_of degree
on_link ks v i p h =
    let lt : i < length (keys_at ks v) = omega (arith, slice_get_within (ports_of ks v) i p h, length-map (keys_at ks v) (port_on ks v)) in
    let r : KeptAt (ends_at v) ks i no_key = kept_at (ends_at v) ks i no_key lt in
    record {
      at = r.at;
      within = r.within;
      ends = r.passes;
      port =
          sym (get_or_from_slice_get (ports_of ks v) i p (port_on ks v no_key) h)
          ∙ get_or-map (port_on ks v) (keys_at ks v) i no_key (port_on ks v no_key) lt ∙ ap (port_on ks v) r.same;
      place = r.before;
    }

pub among_at : (n : ℕ) (ks : List Key) (i : ℕ) (d : Key) → AreAmong n ks → i < length ks
    → (1 ≤ (get_or ks i d).a) × ((get_or ks i d).a < (get_or ks i d).b) × ((get_or ks i d).b ≤ n)
among_at n ks i d w lt = w i d lt

pub ports_end_elsewhere : PortsEndElsewhere
ports_end_elsewhere g ok v i p h =
    let o : OnLink g.keys v i p = on_link g.keys v i p h in
    let k : Key = get_or g.keys o.at no_key in
    let r : (1 ≤ k.a) × (k.a < k.b) × (k.b ≤ g.nodes) = among_at g.nodes g.keys o.at no_key ok.among o.within in
    let f : FarEnd v k = far_end_is k r.1 v o.ends in
    let InGraph : ℕ → Type 0 = λ u. (1 ≤ u) × (u ≤ g.nodes) in
    let in_graph : InGraph (far_end v k) = at_ends InGraph k (r.0, omega (arith, r.1, r.2)) (omega (arith, r.0, r.1), r.2) (far_end v k) f.ends in
    let to : p.far ≡ far_end v k = ap (λ (q : Port). q.far) o.port in
    rw to (in_graph.0, in_graph.1, f.other)

pub ports_lead_back : PortsLeadBack
ports_lead_back g ok v i p h =
    let o : OnLink g.keys v i p = on_link g.keys v i p h in
    let k : Key = get_or g.keys o.at no_key in
    let r : (1 ≤ k.a) × (k.a < k.b) × (k.b ≤ g.nodes) = among_at g.nodes g.keys o.at no_key ok.among o.within in
    let f : FarEnd v k = far_end_is k r.1 v o.ends in
    let there : HasPort g.keys (far_end v k) (degree (take o.at g.keys) (far_end v k)) (port_on g.keys (far_end v k) k) = port_at g.keys (far_end v k)
    o.at no_key o.within f.ends in
    let away : port_number g.keys (far_end v k) k ≡ degree (take o.at g.keys) (far_end v k) = place_at g.keys (far_end v k) o.at no_key ok.rising
    o.within in
    let home : port_number g.keys v k ≡ i = place_at g.keys v o.at no_key ok.rising o.within ∙ o.place in
    let is : port_on g.keys (far_end v k) k ≡ record { key = k; far = v; far_port = i } =
    λ t. record { key = k; far = f.back t; far_port = (ap (λ u. port_number g.keys u k) f.back ∙ home) t } in
    rw o.port (rw (away, ← is) there)

-- fewer links, fewer ports
pub degree-take : (ks : List Key) (v i j : ℕ) → i ≤ j → degree (take i ks) v ≤ degree (take j ks) v
unfolding degree
degree-take ks v i j le =
    subst (λ (xs : List Key). count_by (ends_at v) xs ≤ count_by (ends_at v) (take j ks)) (take-take i j ks le)
    (sum_by-take-le (λ k. cond (ends_at v k) 1 0) (take j ks) i)

pub ports_rise : PortsRise
ports_rise g ok v i j d lt jl =
    let ps : List Port = ports_of g.keys v in
    let o : OnLink g.keys v i (get_or ps i d) = on_link g.keys v i (get_or ps i d) (slice_get-get_or ps i d (omega arith)) in
    let q : OnLink g.keys v j (get_or ps j d) = on_link g.keys v j (get_or ps j d) (slice_get-get_or ps j d jl) in
    let before : o.at < q.at = ⊎_elim (λ h. h) (λ h. absurd (omega (arith, o.place, q.place, degree-take g.keys v q.at o.at h))) (cases_lt o.at q.at)
    in
    rw (o.port, q.port) (ok.rising o.at q.at no_key before q.within)

two_ports_at : (g : Shape) → IsGraph g → (m : ℕ) → m < length g.keys → HasTwoPorts g.keys (get_or g.keys m no_key)
two_ports_at g ok m lt = record {
  at_a = rw (place_at g.keys k.a m no_key ok.rising lt) (port_at g.keys k.a m no_key lt (ends_a k));
  at_b = rw (place_at g.keys k.b m no_key ok.rising lt) (port_at g.keys k.b m no_key lt (ends_b k));
  only = λ v i p h e.
      let o : OnLink g.keys v i p = on_link g.keys v i p h in
      let same : get_or g.keys o.at no_key ≡ k = sym (ap (λ (q : Port). q.key) o.port) ∙ e in
      let ends : ends_at v k ≡ true = subst (λ (x : Key). ends_at v x ≡ true) same o.ends in
      let place : i ≡ port_number g.keys v k = sym o.place ∙ sym (place_at g.keys v o.at no_key ok.rising o.within) ∙ ap
      (λ (x : Key). port_number g.keys v x) same in
      ⊎_elim (λ q. inl (q, place ∙ ap (λ u. port_number g.keys u k) q)) (λ q. inr (q, place ∙ ap (λ u. port_number g.keys u k) q))
      (end_cases v k ends);
}
  where
    k : Key
    k = get_or g.keys m no_key

pub links_have_two_ports : LinksHaveTwoPorts
links_have_two_ports g ok k h = subst (λ (x : Key). HasTwoPorts g.keys x) (get_or_default g.keys h.0 no_key k h.1 ∙ h.2) (two_ports_at g ok h.0 h.1)
