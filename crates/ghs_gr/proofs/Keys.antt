-- Keys in order, each once.
use Rattle.std.proofs.Common.{◌≡◌, ◌≤◌, ◌+◌, ℕ, true, false, Bool, List, get_or, Ordering, nat_cmp, Less, [], arith}
use Rattle.std.specs.Prelude.{All, ◌==◌, ◌&&◌}
use Rattle.std.specs.Cmp.{IsEquivalence, IsTotalOrder, nat_cmp_total}
use Rattle.std.specs.List.{AllPairs}
use Rattle.std.specs.List.Retain.{DiffersFromLast, IsFiltered}
use Rattle.std.specs.List.Sorted.{IsNonDecreasingBy, IsPermutation, IsSorted}
use Rattle.std.specs.Ordering.{eq_by_cmp, is_lt, ordering_then}
use Rattle.std.proofs.lemmas.Bool.{and_parts, eqb-true}
use Rattle.std.proofs.lemmas.Bool.Decides.{nat_tests}
use Rattle.std.proofs.lemmas.Cmp.{on_total, then_total}
use Rattle.std.proofs.lemmas.List.Filters.{dedup_is}
use Rattle.std.proofs.lemmas.List.Kept.{Contains-dedup, Contains-from_dedup, IsStrictlySortedBy-dedup}
use Rattle.std.proofs.lemmas.List.Sorted.{All-permutation, Contains-permutation, IsPermutation-sym}
use Rattle.std.proofs.lemmas.Map.Keys.{Less-from_sorted}
use Rattle.ghs_gr.specs.Key.{AreSameKeys, HasSmallEnds, code_of}
use Rattle.ghs_gr.specs.RawGraph.{Triple, triple_lt}

abbrev pub key_cmp : Triple → Triple → Ordering
key_cmp x y = ordering_then (ordering_then (nat_cmp x.0 y.0) (nat_cmp x.1 y.1)) (nat_cmp x.2 y.2)

abbrev pub key_eq : Triple → Triple → Bool
key_eq x y = x.0 == y.0 && x.1 == y.1 && x.2 == y.2

key_total : IsTotalOrder key_cmp
key_total = then_total (then_total (on_total (λ k. k.0) nat_cmp_total) (on_total (λ k. k.1) nat_cmp_total)) (on_total (λ k. k.2) nat_cmp_total)

key_eq-cmp : (x y : Triple) → key_eq x y ≡ eq_by_cmp key_cmp x y
key_eq-cmp x y = grind (arith, nat_tests)

key_eq-refl : (x : Triple) → key_eq x x ≡ true
key_eq-refl x = grind (arith, nat_tests)

key_eq-symm : (x y : Triple) → key_eq x y ≡ key_eq y x
key_eq-symm x y = grind (arith, nat_tests)

key_eq-congr : (x y z : Triple) → key_eq x y ≡ true → key_eq x z ≡ key_eq y z
key_eq-congr x y z e = grind (arith, nat_tests)

pub same_parts : (a b c d e f : ℕ) → a ≡ d → b ≡ e → c ≡ f → (let t : Triple = (a, b, c) in t) ≡ (d, e, f)
same_parts a b c d e f p q r = cc

key_eq-true : (x y : Triple) → key_eq x y ≡ true → x ≡ y
key_eq-true x y e =
    let outer = and_parts (x.0 == y.0 && x.1 == y.1) (x.2 == y.2) e in
    let inner = and_parts (x.0 == y.0) (x.1 == y.1) outer.0 in
    same_parts x.0 x.1 x.2 y.0 y.1 y.2 (eqb-true _ _ inner.0) (eqb-true _ _ inner.1) (eqb-true _ _ outer.1)

key_equivalence : IsEquivalence key_eq
key_equivalence = record { refl = key_eq-refl; symm = key_eq-symm; congr = key_eq-congr }

triple_lt-Less : (x y : Triple) → key_cmp x y ≡ Less → triple_lt x y ≡ true
triple_lt-Less x y e = grind (arith, nat_tests)

pub rising : (xs ys : List Triple) → IsSorted key_cmp xs → IsFiltered (DiffersFromLast key_eq) [] xs ys → AllPairs (λ j k. triple_lt j k ≡ true) ys
rising xs ys sorted kept = λ i j d l below.
    triple_lt-Less (get_or ys i d) (get_or ys j d)
    (Less-from_sorted key_cmp ys i j d (rw (dedup_is key_eq xs ys kept) (IsStrictlySortedBy-dedup key_total key_eq-cmp xs sorted)) l below)

pub same_keys : (xs ys zs : List Triple) → IsPermutation xs ys → IsFiltered (DiffersFromLast key_eq) [] ys zs → AreSameKeys zs xs
same_keys xs ys zs moved kept key = (
  λ h. Contains-permutation ys xs key (IsPermutation-sym xs ys moved) (Contains-from_dedup key_eq ys key (rw (← dedup_is key_eq ys zs kept) h)),
  λ h. rw (dedup_is key_eq ys zs kept) (Contains-dedup key_equivalence key_eq-true ys key (Contains-permutation xs ys key moved h)),
)

-- a key of a greater number is no smaller key
no_less : (x y : Triple) → HasSmallEnds x → HasSmallEnds y → code_of x ≤ code_of y → is_lt (key_cmp y x) ≡ false
no_less x y p q le =
    let weight : x.0 ≤ y.0 = omega (arith, le, p.0, p.1, q.0, q.1) in
    let low : x.0 ≡ y.0 → x.1 ≤ y.1 = λ e. omega (arith, le, e, p.0, p.1, q.0, q.1) in
    let high : x.0 ≡ y.0 → x.1 ≡ y.1 → x.2 ≤ y.2 = λ e f. omega (arith, le, e, f) in
    grind (arith, nat_tests)

pub sorted_by_code : (xs ys : List Triple) → All HasSmallEnds xs → IsPermutation xs ys → IsNonDecreasingBy code_of ys → IsSorted key_cmp ys
sorted_by_code xs ys small moved up =
    let all : All HasSmallEnds ys = All-permutation HasSmallEnds xs ys moved small in
    λ k d l h. no_less (get_or ys k d) (get_or ys (k + 1) d) (all k d (omega arith)) (all (k + 1) d h) (up k (k + 1) d (omega arith) h)
