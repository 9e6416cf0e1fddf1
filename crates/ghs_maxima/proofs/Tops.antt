-- What stands above a row of numbers.
use Rattle.std.proofs.Common.{◌≡◌, ℕ, zero, suc, ◌+◌, ◌-◌, ◌*◌, ◌/◌, ◌<◌, ◌≤◌, List, get_or, drop, refl, arith, ⊎_elim}
use Rattle.std.proofs.lemmas.List.{get_or-drop, get_or_past, length-drop}
use Rattle.std.proofs.lemmas.Bool.{cases_lt}
use Rattle.ghs_maxima.specs.Maxima.{AreZeros, IsGreatest}
use Rattle.ghs_maxima.specs.Tree.{IsTop, IsTree}

-- nothing below a top is greater
le_top : (tree : List ℕ) (p k : ℕ) → IsTop tree p → p ≡ k / 2 → get_or tree k 0 ≤ get_or tree p 0
le_top tree p k top half = ⊎_elim
    (λ (odd : 2 * p < k). let here : k ≡ 2 * p + 1 = omega arith in rw here (omega arith))
    (λ (even : k ≤ 2 * p). let here : k ≡ 2 * p = omega arith in rw here (omega arith))
    (cases_lt (2 * p) k)

module _ {n : ℕ} {tree : List ℕ} (kept : IsTree n tree) where
  -- so nothing is greater than what stands at place 1
  le_first_by : (most k : ℕ) → k ≤ most → 0 < k → k < 2 * n → get_or tree k 0 ≤ get_or tree 1 0
  le_first_by zero k le pos lt = absurd (omega arith)
  le_first_by (suc most) k le pos lt = ⊎_elim
      (λ (more : 1 < k).
      let up = le_first_by most (k / 2) (omega arith) (omega arith) (omega arith) in
      let here = le_top tree (k / 2) k (kept.tops (k / 2) (omega arith) (omega arith) (omega arith)) refl in
      omega arith)
      (λ (one : k ≤ 1). let here : k ≡ 1 = omega arith in rw here (omega arith))
      (cases_lt 1 k)

  row_le : (i : ℕ) → 0 < n → get_or (drop n tree) i 0 ≤ get_or tree 1 0
  row_le i some = ⊎_elim
      (λ (inside : i < n).
      let read = get_or-drop n tree i 0 in
      let le = le_first_by (n + i) (n + i) (omega arith) (omega arith) (omega arith) in
      omega arith)
      (λ (past : n ≤ i). let many = kept.many in let none = get_or_past (drop n tree) i 0 (omega (arith, length-drop n tree)) in omega arith)
      (cases_lt i n)

  pub zeros_without : n ≡ 0 → AreZeros (drop n tree)
  zeros_without none i = let many = kept.many in get_or_past (drop n tree) i 0 (omega (arith, length-drop n tree))

  pub zeros_below : 0 < n → get_or tree 1 0 ≡ 0 → AreZeros (drop n tree)
  zeros_below some none i = let le = row_le i some in omega arith

  pub greatest_leaf : (leaf : ℕ) → 0 < get_or tree 1 0 → n ≤ leaf → leaf < 2 * n → get_or tree leaf 0 ≡ get_or tree 1 0
      → IsGreatest (drop n tree) (leaf - n)
  greatest_leaf leaf some order within same =
      let many = kept.many in
      let place : n + (leaf - n) ≡ leaf = omega arith in
      let read = rw place at (get_or-drop n tree (leaf - n) 0) in
      record {
        within = omega (arith, length-drop n tree);
        some = omega arith;
        greatest = λ j. let le = row_le j (omega arith) in omega arith;
      }
