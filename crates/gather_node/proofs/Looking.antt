-- Links looked up in a list in key order.
use Rattle.std.proofs.Common.{◌≡◌, ℕ, ◌+◌, ◌<◌, ◌≤◌, ⊎_elim, true, false, List, length, get_or, take, sym, ◌∙◌, subst, arith, ltb-true, nat_lt}
use Rattle.std.specs.List.{Contains}
use Rattle.std.specs.Cmp.{both_ways}
use Rattle.std.proofs.lemmas.Bool.{cases_eq, cases_lt}
use Rattle.std.proofs.lemmas.Bool.Decides.{nat_tests}
use Rattle.std.proofs.lemmas.List.{take_more, take_all, get_or_default}
use Rattle.std.proofs.lemmas.List.Elements.{Contains-get_or}
use Rattle.ghs_graph.specs.declared.key.Key.{Key}
use Rattle.ghs_graph.specs.Key.{key_lt, no_key}
use Rattle.ghs_graph.specs.Links.{IsRising}
use Rattle.ghs_graph.proofs.lemmas.Keys.{lt_irreflexive}
use Rattle.gather_node.specs.Forest.{follows, has, is_same}
use Rattle.gather_node.proofs.Orders.{rises_on}
use Rattle.gather_node.proofs.lemmas.Forest.{has_in, in_has, lt_through, same_itself, same_true}

-- Whether a list rises.

pub rising_starts : (ks : List Key) → IsRising (take 0 ks)
rising_starts ks = λ i j d lt jl. absurd (omega arith)

pub rising_more : (ks : List Key) (p : ℕ) → p < length ks → IsRising (take p ks) → follows (take p ks) (get_or ks p no_key) ≡ true →
    IsRising (take (p + 1) ks)
rising_more ks p lt r h =
    subst (λ (x : List Key). IsRising x) (sym (take_more ks p no_key lt)) (rises_on (take p ks) (get_or ks p no_key) r h)

pub rising_ends : (ks : List Key) (p : ℕ) → length ks ≤ p → IsRising (take p ks) → IsRising ks
rising_ends ks p le r = subst (λ (x : List Key). IsRising x) (take_all p ks le) r

-- The place of a key.

-- the place lies from low to high: before it all are below the key, and from it on none is
pub record IsFrom (ks : List Key) (k : Key) (low high : ℕ) : Type 0 where
  pub order : low ≤ high
  pub end : high ≤ length ks
  pub before : (i : ℕ) → i < low → key_lt (get_or ks i no_key) k ≡ true
  pub rest : (i : ℕ) → high ≤ i → i < length ks → key_lt (get_or ks i no_key) k ≡ false

not_below_through : (j k l : Key) → key_lt j k ≡ true → key_lt j l ≡ false → key_lt k l ≡ false
not_below_through j k l h i = grind (arith, nat_tests)

pub place_starts : (ks : List Key) (k : Key) → IsFrom ks k 0 (length ks)
place_starts ks k = record {
  order = omega arith;
  end = omega arith;
  before = λ i lt. absurd (omega (arith, lt));
  rest = λ i ge lt. absurd (omega (arith, ge, lt));
}

pub place_above : (ks : List Key) (k : Key) (low high m : ℕ) → IsRising ks → IsFrom ks k low high → m < high →
    key_lt (get_or ks m no_key) k ≡ true → IsFrom ks k (m + 1) high
place_above ks k low high m r w lt h = record {
  order = omega (arith, lt);
  end = w.end;
  before = λ i il. ⊎_elim
      (λ (e : i ≡ m). subst (λ n. key_lt (get_or ks n no_key) k ≡ true) (sym e) h)
      (λ ne.
      let e = w.end in
      lt_through (get_or ks i no_key) (get_or ks m no_key) k (r i m no_key (omega (arith, ne, il)) (omega (arith, lt, e))) h) (cases_eq i m);
  rest = w.rest;
}

pub place_below : (ks : List Key) (k : Key) (low high m : ℕ) → IsRising ks → IsFrom ks k low high → low ≤ m → m < high →
    key_lt (get_or ks m no_key) k ≡ false → IsFrom ks k low m
place_below ks k low high m r w le lt h = record {
  order = le;
  end = let e = w.end in omega (arith, lt, e);
  before = w.before;
  rest = λ i ge il. ⊎_elim
      (λ (e : i ≡ m). subst (λ n. key_lt (get_or ks n no_key) k ≡ false) (sym e) h)
      (λ ne.
      not_below_through (get_or ks m no_key) (get_or ks i no_key) k (r m i no_key (omega (arith, ne, ge)) il) h) (cases_eq i m);
}

-- where the list has the key, it stands at that place
stands : (ks : List Key) (k : Key) (low high : ℕ) → IsRising ks → IsFrom ks k low high → high ≤ low → Contains ks k →
    (low < length ks) × (get_or ks low no_key ≡ k)
stands ks k low high r w le h = ⊎_elim here (λ ne. ⊎_elim early (late ne) (cases_lt h.0 low)) (cases_eq h.0 low)
  where
    at : get_or ks h.0 no_key ≡ k
    at = get_or_default ks h.0 no_key k h.1 ∙ h.2

    here : h.0 ≡ low → (low < length ks) × (get_or ks low no_key ≡ k)
    here e = (subst (λ n. n < length ks) e h.1, subst (λ n. get_or ks n no_key ≡ k) e at)

    early : h.0 < low → (low < length ks) × (get_or ks low no_key ≡ k)
    early lt =
        let below : key_lt k k ≡ true = subst (λ (x : Key). key_lt x k ≡ true) at (w.before h.0 lt) in
        let e = sym below ∙ lt_irreflexive k in cc

    late : (h.0 ≡ low → ⊥) → low ≤ h.0 → (low < length ks) × (get_or ks low no_key ≡ k)
    late ne ge =
        let lt : low < h.0 = omega (arith, ne, ge) in
        let in_list : low < length ks = let l = h.1 in omega (arith, lt, l) in
        let below : key_lt (get_or ks low no_key) k ≡ true =
        subst (λ (x : Key). key_lt (get_or ks low no_key) x ≡ true) at (r low h.0 no_key lt h.1) in
        let e = sym below ∙ w.rest low le in_list in cc

pub found : (ks : List Key) (k : Key) (low high : ℕ) → IsRising ks → IsFrom ks k low high → high ≤ low → low < length ks →
    is_same (get_or ks low no_key) k ≡ has ks k
found ks k low high r w le lt = both_ways (is_same (get_or ks low no_key) k) (has ks k) told tells
  where
    told : is_same (get_or ks low no_key) k ≡ true → has ks k ≡ true
    told h =
        subst (λ (x : Key). has ks x ≡ true) (same_true (get_or ks low no_key) k h)
        (in_has ks (get_or ks low no_key) (Contains-get_or ks low no_key lt))

    tells : has ks k ≡ true → is_same (get_or ks low no_key) k ≡ true
    tells h =
        let e = (stands ks k low high r w le (has_in ks k h)).1 in
        subst (λ (x : Key). is_same x k ≡ true) (sym e) (same_itself k)

pub not_found : (ks : List Key) (k : Key) (low high : ℕ) → IsRising ks → IsFrom ks k low high → high ≤ low → length ks ≤ low →
    nat_lt low (length ks) ≡ has ks k
not_found ks k low high r w le ge = both_ways (nat_lt low (length ks)) (has ks k) told tells
  where
    told : nat_lt low (length ks) ≡ true → has ks k ≡ true
    told t = let lt = ltb-true low (length ks) t in absurd (omega (arith, lt, ge))

    tells : has ks k ≡ true → nat_lt low (length ks) ≡ true
    tells h = let lt = (stands ks k low high r w le (has_in ks k h)).0 in absurd (omega (arith, lt, ge))
