-- What a row of flags as the bits of words keeps and tells.
use Rattle.std.proofs.Common.{◌≡◌, ℕ, zero, suc, ◌+◌, ◌*◌, ◌/◌, ◌%◌, ◌<◌, ◌≤◌, Bool, false, List, length, get_or, take, replicate, refl, sym, ap, ◌∙◌, arith, cond, ⊎_elim}
use Rattle.std.specs.Prelude.{count_ones, nat_eq}
use Rattle.std.specs.List.{sum_by}
use Rattle.std.proofs.lemmas.List.{get_or-replicate, length-replicate, get_or_past, ext_get_or}
use Rattle.std.proofs.lemmas.List.Sums.{sum_by-cons}
use Rattle.std.proofs.lemmas.Bool.{cases_lt}
use Rattle.std.proofs.lemmas.Nat.Bits.{bit_at-zero}
use Rattle.ghs_flags.specs.Word.{has_bit}
use Rattle.ghs_flags.specs.Flags.{IsKth, count}
use Rattle.ghs_flags.specs.Row.{IsRow, IsNthFlag, flag_at, flags_of, ones_of, rank}
use Rattle.ghs_flags.proofs.Bits.{ones_below-zero, ones_small}
use Rattle.ghs_flags.proofs.Ranks.{length-flags_of, at-flags_of, take-flags_of, count-flags_of, kth-flags_of}

module _ {words : List ℕ} {n : ℕ} (row : IsRow words n) where
  -- there is a word for each flag
  pub word_within : (p : ℕ) → p < length (flags_of words n) → p / 64 < length words
  word_within p lt = let len = length-flags_of words n in let enough = row.enough in omega arith

  pub place_within : (p : ℕ) → p ≤ length (flags_of words n) → p < length words * 64
  place_within p le = let len = length-flags_of words n in let enough = row.enough in omega arith

  -- the raised flags of a front are its set bits
  pub count-front : (p : ℕ) → p ≤ length (flags_of words n) → count (take p (flags_of words n)) ≡ rank words p
  count-front p le =
      let len = length-flags_of words n in
      let within = place_within p le in
      ap count (take-flags_of words n p (omega arith)) ∙ count-flags_of words row.bits p (omega arith)

  -- at the first bit of a word
  pub count-words_before : (p : ℕ) → p % 64 ≡ 0 → p ≤ length (flags_of words n) → count (take p (flags_of words n)) ≡ ones_of (p / 64) words
  count-words_before p whole le =
      let none = ones_below-zero (get_or words (p / 64) 0) in
      let front = rw whole at (count-front p le) in
      omega arith

  pub kth_bit : (k p : ℕ) → k < count (flags_of words n) → IsNthFlag words k p → IsKth (flags_of words n) k p
  kth_bit k p some nth = let enough = row.enough in (kth-flags_of words row.bits n k p (omega arith) some nth).1

-- No flag is raised.
module _ (m n : ℕ) where
  abbrev zeros : List ℕ
  zeros = replicate m 0

  zero_at : (k : ℕ) → get_or zeros k 0 ≡ 0
  zero_at k = ⊎_elim
      (λ (lt : k < m). get_or-replicate m k 0 0 lt)
      (λ (past : m ≤ k). let len = length-replicate {A = ℕ} m 0 in get_or_past zeros k 0 (omega arith))
      (cases_lt k m)

  pub flags-lowered : flags_of (replicate m 0) n ≡ replicate n false
  flags-lowered =
      ext_get_or false (flags_of (replicate m 0) n) (replicate n false) (length-flags_of (replicate m 0) n ∙ sym (length-replicate n false)) each
    where
      each : (p : ℕ) → p < length (flags_of (replicate m 0) n) → get_or (flags_of (replicate m 0) n) p false ≡ get_or (replicate n false) p false
      each p lt =
          let len = length-flags_of (replicate m 0) n in
          let down : flag_at (replicate m 0) p ≡ false = ap (λ (w : ℕ). has_bit w (p % 64)) (zero_at (p / 64)) ∙ ap (λ (b : ℕ). nat_eq b 1)
          (bit_at-zero (p % 64)) in
          at-flags_of (replicate m 0) n p (omega arith) ∙ down ∙ sym (get_or-replicate n p false false (omega arith))

  pub row_lowered : m ≡ n / 64 + 1 → n ≤ 2147483648 → IsRow (replicate m 0) n
  row_lowered enough few = record {
    bits = λ k. let zero' = zero_at k in omega arith;
    few = few;
    enough = length-replicate m 0 ∙ enough;
    all = none count_ones m 0 (ones_small 0 (omega arith)) ∙ sym (ap count flags-lowered ∙ none (λ (b : Bool). cond b 1 0) n false refl);
  }
    where
      none : {X : Type 0} (f : X → ℕ) (k : ℕ) (x : X) → f x ≡ 0 → sum_by f (replicate k x) ≡ 0
      none f zero x weightless = refl
      none f (suc k) x weightless = omega (arith, sum_by-cons f x (replicate k x), none f k x weightless)
