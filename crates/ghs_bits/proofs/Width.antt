-- The bits that numbers need.
use Rattle.std.proofs.Common.{◌≡◌, ℕ, zero, suc, Bool, true, false, ◌+◌, ◌-◌, ◌^◌, ◌<◌, ◌≤◌, List, [], ◌∷◌, ◌++◌, refl, sym, ◌∙◌, ap, subst, ⊎_elim, arith, max, cond, length, take}
use Rattle.std.proofs.Math.Pow.{pow_mono}
use Rattle.std.proofs.lemmas.Grind.{pow_more}
use Rattle.std.proofs.lemmas.Bool.{cases_lt, ltb-false, ltb-true}
use Rattle.std.proofs.lemmas.List.{take_more}
use Rattle.std.specs.List.{slice_index_or}
use Rattle.std.specs.Prelude.{nat_lt}
use Rattle.ghs_graph.specs.Bound.{IsFloorLog2}
use Rattle.ghs_graph.specs.Graph.{Shape}
use Rattle.ghs_graph.specs.declared.key.Key.{Key}
use Rattle.ghs_bits.specs.declared.widths.Widths.{Widths}
use Rattle.ghs_bits.specs.Laws.{IsWidth, LevelsAreFloors, WidthsAreLeast}
use Rattle.ghs_bits.specs.Length.{greatest_weight, width_from, width_of, widths_of}

-- the search finds the least number, where none below k is enough
from_is : (n k few : ℕ) → 1 ≤ k → ((j : ℕ) → 1 ≤ j → n < 2 ^ j → k ≤ j) → n < 2 ^ (k + few) → IsWidth n (width_from n k few)
unfolding width_from
from_is n k zero some least fits = record { some = some; fits = rw (← add_zero_at k) fits; least = least }
  where
    add_zero_at : (m : ℕ) → m + 0 ≡ m
    add_zero_at m = omega arith
from_is n k (suc few) some least fits =
    go (nat_lt n (2 ^ k)) refl
    (λ above. from_is n (suc k) few (omega arith)
    (λ j one lt. ⊎_elim
    (λ (here : k < j). omega (arith, here))
    (λ (below : j ≤ k). absurd (omega (arith, pow_mono {i = j} {j = k} below, lt, above)))
    (cases_lt k j))
    (let e : k + suc few ≡ suc k + few = omega arith in subst (λ (m : ℕ). n < 2 ^ m) e fits))
  where
    go : (b : Bool) → nat_lt n (2 ^ k) ≡ b → (2 ^ k ≤ n → IsWidth n (width_from n (suc k) few)) →
        IsWidth n (cond b k (width_from n (suc k) few))
    go true is rest = record { some = some; fits = ltb-true n (2 ^ k) is; least = least }
    go false is rest = rest (ltb-false n (2 ^ k) is)

-- a number has no more bits than it says
below_pow : (n : ℕ) → n < 2 ^ (1 + n)
below_pow zero = omega arith
below_pow (suc n) = let e : 1 + suc n ≡ 1 + n + 1 = omega arith in rw e (omega (arith, below_pow n, pow_more 2 (1 + n)))

pub widths_are_least : WidthsAreLeast
unfolding width_of
widths_are_least n = from_is n 1 n (omega arith) (λ j one lt. one) (below_pow n)

one_width : (n j k : ℕ) → IsWidth n j → IsWidth n k → j ≡ k
one_width n j k a b = let x = a.least k b.some b.fits in let y = b.least j a.some a.fits in omega (arith, x, y)

-- one more than the floor of log2
log2_is : (n k : ℕ) → IsFloorLog2 n k → IsWidth n (k + 1)
log2_is n k is = record {
  some = omega arith;
  fits = ⊎_elim
      (λ (lt : n < 2 ^ (k + 1)). lt)
      (λ (ge : 2 ^ (k + 1) ≤ n). absurd (let x = is.greatest (k + 1) ge in omega (arith, x)))
      (cases_lt n (2 ^ (k + 1)));
  least = λ j one lt. ⊎_elim
      (λ (there : k < j). omega (arith, there))
      (λ (below : j ≤ k). absurd (let x = is.at_most in omega (arith, pow_mono {i = j} {j = k} below, lt, x)))
      (cases_lt k j);
}

pub log2_width : (n k : ℕ) → IsFloorLog2 n k → k + 1 ≡ width_of n
log2_width n k is = one_width n (k + 1) (width_of n) (log2_is n k is) (widths_are_least n)

pub zero_width : (n : ℕ) → n ≡ 0 → 1 ≡ width_of n
zero_width n is =
    one_width n 1 (width_of n) (record { some = omega arith; fits = rw is (omega arith); least = λ j one lt. one }) (widths_are_least n)

pub level_width : (n k : ℕ) → IsFloorLog2 n k → width_of k ≡ width_of (width_of n - 1)
level_width n k is = let e = log2_width n k is in ap width_of (omega (arith, e))

pub levels_are_floors : LevelsAreFloors
unfolding widths_of
levels_are_floors g k is = sym (level_width g.nodes k is)

-- the greatest weight, a link more
pub greatest_more : (ks : List Key) (k : Key) → max (greatest_weight ks) k.weight ≡ greatest_weight (ks ++ k ∷ [])
greatest_more [] k = omega arith
greatest_more (j ∷ ks) k = omega (arith, greatest_more ks k)

pub greatest_next : (ks : List Key) (i : ℕ) (d : Key) (n m : ℕ) → i < length ks → n ≡ greatest_weight (take i ks) →
    m ≡ max n (slice_index_or ks i d).weight → m ≡ greatest_weight (take (i + 1) ks)
greatest_next ks i d n m lt so_far is =
    let more = greatest_more (take i ks) (slice_index_or ks i d) in
    let all = ap greatest_weight (take_more ks i d lt) in
    omega (arith, so_far, is, more, all)

-- the widths of a graph, one by one
pub widths_are : (g : Shape) (k : ℕ) (w : Widths) → IsFloorLog2 g.nodes k → w.number ≡ width_of g.nodes →
    w.weight ≡ width_of (greatest_weight g.keys) → w.level ≡ width_of k → w ≡ widths_of g
unfolding widths_of
widths_are g k w is number weight level =
    let levels = level ∙ level_width g.nodes k is in λ i. record { number = number i; weight = weight i; level = levels i }
