-- Flags and the words that they are bits of.
use Rattle.std.proofs.Common.{◌≡◌, ℕ, zero, suc, ◌+◌, ◌*◌, ◌/◌, ◌%◌, ◌^◌, ◌<◌, ◌≤◌, Bool, false, cond, List, length, get_or, take, map, refl, ap, ◌∙◌, arith, ⊎_elim, add-one}
use Rattle.std.specs.Prelude.{Option, Some, None, count_ones}
use Rattle.std.specs.List.{sum_by, range_with_len}
use Rattle.std.proofs.lemmas.Bool.{cases_lt}
use Rattle.std.proofs.lemmas.List.{take_all}
use Rattle.std.proofs.lemmas.List.Sums.{sum_by_more, sum_by_push, count_by-le-length}
use Rattle.std.proofs.lemmas.List.FromFn.{length-map-range_with_len, get_or-map-range_with_len, take-map-range_with_len, map-range_with_len_more}
use Rattle.ghs_flags.specs.First.{IsFirst}
use Rattle.ghs_flags.specs.Word.{ones_below}
use Rattle.ghs_flags.specs.Row.{IsNthFlag, flag_at, flags_of, rank}
use Rattle.ghs_flags.specs.Flags.{IsKth, count, at}
use Rattle.ghs_flags.proofs.Bits.{ones_below-suc, ones_below-zero, ones_below-all, one_if_set}
use Rattle.ghs_flags.proofs.Sums.{front_le}

module _ (words : List ℕ) where
  pub length-flags_of : (n : ℕ) → length (flags_of words n) ≡ n
  unfolding flags_of
  length-flags_of n = length-map-range_with_len (flag_at words) 0 n

  pub at-flags_of : (n p : ℕ) → p < n → at (flags_of words n) p ≡ flag_at words p
  unfolding flags_of
  at-flags_of n p lt = get_or-map-range_with_len (flag_at words) 0 n p p false lt (omega arith)

  pub take-flags_of : (n p : ℕ) → p ≤ n → take p (flags_of words n) ≡ flags_of words p
  unfolding flags_of
  take-flags_of n p le = take-map-range_with_len (flag_at words) 0 n p le

  count-more : (n : ℕ) → count (flags_of words (n + 1)) ≡ count (flags_of words n) + cond (flag_at words n) 1 0
  unfolding flags_of
  count-more n =
      ap count (map-range_with_len_more (flag_at words) 0 n n (omega arith))
      ∙ sum_by_push (λ (b : Bool). cond b 1 0) (map (flag_at words) (range_with_len 0 n)) (flag_at words n)

  count-none : count (flags_of words 0) ≡ 0
  unfolding flags_of
  count-none = refl

  module _ (fits : (k : ℕ) → get_or words k 0 < 2 ^ 64) where
    -- one flag further
    rank-more : (p : ℕ) → p < length words * 64 → rank words (p + 1) ≡ rank words p + cond (flag_at words p) 1 0
    rank-more p lt =
        let w = get_or words (p / 64) 0 in
        let here = ones_below-suc w (p % 64) ∙ ap (λ (n : ℕ). ones_below w (p % 64) + n) (one_if_set w (p % 64)) in
        ⊎_elim
        (λ (inside : p % 64 < 63).
        let word : (p + 1) / 64 ≡ p / 64 = omega arith in
        let bit : (p + 1) % 64 ≡ p % 64 + 1 = omega arith in
        rw (word, bit) (omega (arith, here)))
        (λ (last : 63 ≤ p % 64).
        let word : (p + 1) / 64 ≡ p / 64 + 1 = omega arith in
        let bit : (p + 1) % 64 ≡ 0 = omega arith in
        let end : p % 64 + 1 ≡ 64 = omega arith in
        let all = rw end at here in
        let whole = ones_below-all w (fits (p / 64)) in
        let none = ones_below-zero (get_or words (p / 64 + 1) 0) in
        let sum = sum_by_more count_ones words (p / 64) 0 (omega arith) in
        rw (word, bit) (omega arith))
        (cases_lt (p % 64) 63)

    pub count-flags_of : (n : ℕ) → n ≤ length words * 64 → count (flags_of words n) ≡ rank words n
    count-flags_of zero le = omega (arith, count-none, ones_below-zero (get_or words 0 0))
    count-flags_of (suc n) le =
        let rest = count-flags_of n (omega arith) in
        rw (← add-one n) (count-more n ∙ omega (arith, rank-more n (omega arith)))

    -- the bits that are set are those of all flags that the words have room for
    pub count-words : count (flags_of words (length words * 64)) ≡ sum_by count_ones words
    count-words =
        let word : length words * 64 / 64 ≡ length words = omega arith in
        let bit : length words * 64 % 64 ≡ 0 = omega arith in
        let all : sum_by count_ones (take (length words) words) ≡ sum_by count_ones words = ap (sum_by count_ones)
        (take_all (length words) words (omega arith)) in
        let none = ones_below-zero (get_or words (length words) 0) in
        count-flags_of (length words * 64) (omega arith) ∙ rw (word, bit) (omega arith)

    -- no more are raised before a flag than stand there
    pub rank-le : (p : ℕ) → p ≤ length words * 64 → rank words p ≤ p
    rank-le p within = omega (arith, count-flags_of p within, count_by-le-length (λ b. b) (flags_of words p), length-flags_of p)

    -- the front up to a flag has no more raised ones than a longer one
    rank_le : (p q : ℕ) → p ≤ q → q ≤ length words * 64 → rank words p ≤ rank words q
    rank_le p q le within =
        let all = length words * 64 in
        let front = front_le (λ (b : Bool). cond b 1 0) (flags_of words all) p q le in
        let small = ap count (take-flags_of all p (omega arith)) ∙ count-flags_of p (omega arith) in
        let large = ap count (take-flags_of all q within) ∙ count-flags_of q within in
        omega arith

    -- the flag whose bit is set, with k before it
    pub kth-flags_of : (n k p : ℕ) → n ≤ length words * 64 → k < count (flags_of words n) → IsNthFlag words k p
        → (p < n) × IsKth (flags_of words n) k p
    kth-flags_of n k p within some nth =
        let inside : p < n = ⊎_elim (λ (lt : p < n). lt)
        (λ (past : n ≤ p).
        let le = rank_le n p past (let in' = nth.within in omega arith) in
        let all = count-flags_of n within in let before = nth.before in absurd (omega arith))
        (cases_lt p n) in (
          inside,
          record {
            raised = at-flags_of n p inside ∙ nth.here;
            before = ap count (take-flags_of n p (omega arith)) ∙ count-flags_of p (omega arith) ∙ nth.before;
          },
        )

  -- what is first among the bits is first among the flags
  pub first-flags_of : (n i e : ℕ) → e ≤ n → (found : Option ℕ) → IsFirst (flag_at words) i e found → IsFirst (at (flags_of words n)) i e found
  first-flags_of n i e within None none = λ j lo hi. at-flags_of n j (omega arith) ∙ none j lo hi
  first-flags_of n i e within (Some j) (lo, hi, here, none) =
      (lo, hi, at-flags_of n j (omega arith) ∙ here, λ m from to. at-flags_of n m (omega arith) ∙ none m from to)
