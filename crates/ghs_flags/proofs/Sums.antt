-- Sums of the fronts of a list, and counts over blocks of what stands below them.
use Rattle.std.proofs.Common.{◌≡◌, ℕ, zero, suc, zero-le, ◌+◌, ◌*◌, ◌/◌, ◌<◌, ◌≤◌, List, [], ◌∷◌, length, get_or, take, set, sym, ap, ◌∙◌, arith, ⊎_elim, length-set, div-lt_iff_lt-mul}
use Rattle.std.proofs.Math.Nat.{div-mul-le_self, le-div_iff_mul-le}
use Rattle.std.specs.List.{sum, sum_by}
use Rattle.std.proofs.lemmas.Bool.{cases_lt}
use Rattle.std.proofs.lemmas.List.{take_all, take-set-le}
use Rattle.std.proofs.lemmas.List.Sums.{sum_by-cons, sum_by_more}
use Rattle.ghs_flags.specs.Counts.{AreCounts}

module _ {X : Type 0} (f : X → ℕ) where
  -- a front is a part of each longer front
  pub front_le : (xs : List X) (i j : ℕ) → i ≤ j → sum_by f (take i xs) ≤ sum_by f (take j xs)
  front_le [] zero zero le = omega arith
  front_le [] zero (suc j) le = omega arith
  front_le [] (suc i) zero le = omega arith
  front_le [] (suc i) (suc j) le = omega arith
  front_le (x ∷ xs) zero j le = zero-le
  front_le (x ∷ xs) (suc i) zero le = absurd (omega arith)
  front_le (x ∷ xs) (suc i) (suc j) le = omega (arith, front_le xs i j (omega arith), sum_by-cons f x (take i xs), sum_by-cons f x (take j xs))

  -- behind a front that falls short of the whole there is more
  pub within_short : (xs : List X) (i r : ℕ) → sum_by f (take i xs) + r < sum_by f xs → i < length xs
  within_short xs i r short = ⊎_elim
      (λ (lt : i < length xs). lt)
      (λ (past : length xs ≤ i). let all = ap (sum_by f) (take_all i xs past) in absurd (omega arith))
      (cases_lt i (length xs))

  -- what a front sums up to once one place is written to
  pub front_set : (xs : List X) (m p : ℕ) (y d : X) → p < length xs → p < m
      → sum_by f (take m (set xs p y)) + f (get_or xs p d) ≡ sum_by f (take m xs) + f y
  front_set [] m p y d lt below = absurd (omega arith)
  front_set (x ∷ xs) zero p y d lt below = absurd (omega arith)
  front_set (x ∷ xs) (suc m) zero y d lt below = omega (arith, sum_by-cons f x (take m xs), sum_by-cons f y (take m xs))
  front_set (x ∷ xs) (suc m) (suc p) y d lt below =
      omega (arith, front_set xs m p y d (omega arith) (omega arith), sum_by-cons f x (take m xs), sum_by-cons f x (take m (set xs p y)))

-- Counts over the blocks of w of what stands below them.
module _ {X : Type 0} (w : ℕ) (pos : 0 < w) (f : X → ℕ) (cs : List ℕ) (below : List X) (kept : AreCounts w f cs below) where
  reach : length below < length cs * w
  reach = let many = kept.many in (div-lt_iff_lt-mul pos).0 (omega arith)

  -- all counts together are what stands below, added up
  pub counts_all : sum cs ≡ sum_by f below
  counts_all =
      let far = reach in
      ap sum (sym (take_all (length cs) cs (omega arith))) ∙ kept.fronts (length cs) ∙ ap (sum_by f) (take_all (length cs * w) below (omega arith))

  module _ (p : ℕ) (lt : p < length below) where
    -- the block of a place is among the counts
    pub block_within : p / w < length cs
    block_within = let far = reach in (div-lt_iff_lt-mul pos).1 (omega arith)

    -- the count of a block is not less than what one of its places weighs
    pub weight_le : (d : X) → f (get_or below p d) ≤ get_or cs (p / w) 0
    weight_le d =
        let here = sum_by_more f below p d lt in
        let low = kept.fronts (p / w) in
        let high = kept.fronts (p / w + 1) in
        let step = sum_by_more (λ (n : ℕ). n) cs (p / w) 0 block_within in
        let one = front_le f below (p / w * w) p (div-mul-le_self p w) in
        let end : p < (p / w + 1) * w = (div-lt_iff_lt-mul pos).0 (omega arith) in
        let two = front_le f below (p + 1) ((p / w + 1) * w) (omega arith) in
        omega arith

    -- once a place weighs more or less, so does its block
    pub counts_set : (y d : X) (n : ℕ) → n + f (get_or below p d) ≡ get_or cs (p / w) 0 + f y → AreCounts w f (set cs (p / w) n) (set below p y)
    counts_set y d n same = record {
      fronts = λ i. ⊎_elim
          (λ (inside : p / w < i).
          let before = kept.fronts i in
          let b = front_set f below (i * w) p y d lt ((div-lt_iff_lt-mul pos).0 inside) in
          let c = front_set (λ (k : ℕ). k) cs i (p / w) n 0 block_within inside in
          omega arith)
          (λ (out : i ≤ p / w).
          let le : i * w ≤ p = (le-div_iff_mul-le pos).0 out in
          rw (take-set-le i cs (p / w) n out, take-set-le (i * w) below p y le) (kept.fronts i))
          (cases_lt (p / w) i);
      many = rw (length-set cs (p / w) n, length-set below p y) kept.many;
    }
