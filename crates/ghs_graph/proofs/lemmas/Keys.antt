-- The order of keys, and rising lists of them.
use Rattle.std.proofs.Common.{◌≡◌, ℕ, ◌<◌, ◌+◌, ⊎_elim, true, false, List, length, take, drop, get_or, sym, ◌∙◌, subst, arith}
use Rattle.std.specs.List.{All, Contains}
use Rattle.std.proofs.lemmas.Bool.{cases_eq, both_ways}
use Rattle.std.proofs.lemmas.Bool.Decides.{nat_tests}
use Rattle.std.proofs.lemmas.List.{get_or_default, length-take, get_or-take, get_or-drop, length-drop}
use Rattle.ghs_graph.specs.declared.key.Key.{Key}
use Rattle.ghs_graph.specs.Key.{key_lt}
use Rattle.ghs_graph.specs.Links.{AllBelow, IsRising, IsTree}
use Rattle.ghs_graph.proofs.Rising.{same_rising}

pub lt_irreflexive : (k : Key) → key_lt k k ≡ false
lt_irreflexive k = grind (arith, nat_tests)

pub lt_asymmetric : (j k : Key) → key_lt j k ≡ true → key_lt k j ≡ false
lt_asymmetric j k h = grind (arith, nat_tests)

pub below_at : (ks : List Key) (i : ℕ) (d : Key) → IsRising ks → i < length ks → AllBelow (take i ks) (get_or ks i d)
below_at ks i d r lt j h =
    let short : h.0 < i = omega (arith, h.1, length-take i ks) in
    let at : get_or ks h.0 j ≡ j = sym (get_or-take i ks h.0 j short) ∙ h.2 in
    subst (λ (x : Key). key_lt x (get_or ks i d) ≡ true) at
    (subst (λ (x : Key). key_lt (get_or ks h.0 j) x ≡ true) (get_or_default ks i j d lt) (r h.0 i j short lt))

-- from a place on no key is less than the one there
pub none_below : (ks : List Key) (i : ℕ) (d : Key) → IsRising ks → i < length ks → All (λ j. key_lt j (get_or ks i d) ≡ false) (drop i ks)
none_below ks i d r lt m e ml = rw (get_or-drop i ks m e, get_or_default ks i d e lt) (⊎_elim
    (λ (z : m ≡ 0).
    subst (λ n. key_lt (get_or ks n e) (get_or ks i e) ≡ false) (let q : i ≡ i + m = omega arith in q) (lt_irreflexive (get_or ks i e)))
    (λ ne. lt_asymmetric (get_or ks i e) (get_or ks (i + m) e) (r i (i + m) e (omega arith) (omega (arith, length-drop i ks))))
    (cases_eq m 0))

-- rising lists with the same keys are equal
pub same_keys : (ks js : List Key) → IsRising ks → IsRising js → ((x : Key) → Contains ks x → Contains js x)
    → ((x : Key) → Contains js x → Contains ks x) → ks ≡ js
same_keys =
    same_rising (λ j k. key_lt j k ≡ true) (λ k. both_ways (key_lt k k) (lt_irreflexive k)) (λ j k h. both_ways (key_lt k j) (lt_asymmetric j k h))

pub tree_is_same : (ks t s : List Key) → IsTree ks t → IsTree ks s → t ≡ s
tree_is_same ks t s p q = same_keys t s p.rising q.rising (λ x h. q.all x (p.has x h)) (λ x h. p.all x (q.has x h))
