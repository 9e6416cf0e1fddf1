-- The floor of log2, counted, is the greatest power that fits.
use Rattle.std.proofs.Common.{◌≡◌, ℕ, zero, suc, ◌+◌, ◌^◌, ◌<◌, ◌≤◌, Bool, true, false, List, ◌∷◌, cond, nat_le, ⊎_elim, ◌∙◌, sym, subst, arith, refl}
use Rattle.std.specs.Prelude.{count_by}
use Rattle.std.specs.List.{range_with_len}
use Rattle.std.proofs.lemmas.List.Sums.{sum_by-cons}
use Rattle.std.proofs.Math.Nat.{pow-le-pow_right}
use Rattle.std.proofs.lemmas.Bool.{cases_lt, false_from_ne_true, le-leb, leb-true}
use Rattle.ghs_graph.specs.Bound.{IsFloorLog2}
use Rattle.ghs_graph.proofs.lemmas.Logs.{floor_log2_is_one}
use Rattle.boruvka_protocol.specs.Bound.{floor_log2}

skips : (p : ℕ → Bool) (a : ℕ) (xs : List ℕ) → p a ≡ false → count_by p (a ∷ xs) ≡ count_by p xs
skips p a xs e = sum_by-cons (λ x. cond (p x) 1 0) a xs ∙ rw e (omega arith)

keeps : (p : ℕ → Bool) (a : ℕ) (xs : List ℕ) → p a ≡ true → count_by p (a ∷ xs) ≡ suc (count_by p xs)
keeps p a xs e = sum_by-cons (λ x. cond (p x) 1 0) a xs ∙ rw e (omega arith)

module _ (n k : ℕ) (log : IsFloorLog2 n k) where
  -- 2 to the j is at most n
  abbrev fits : ℕ → Bool
  fits j = nat_le (2 ^ j) n

  low_fits : (j : ℕ) → j ≤ k → fits j ≡ true
  low_fits j le =
      let more : 2 ^ j ≤ 2 ^ k = pow-le-pow_right {n = 2} (omega arith) {i = j} {j = k} le in
      le-leb (2 ^ j) n (omega (arith, more, log.at_most))

  high_not : (j : ℕ) → k < j → fits j ≡ false
  high_not j lt = false_from_ne_true (fits j) (λ e. let le = log.greatest j (leb-true (2 ^ j) n e) in omega (arith, le, lt))

  none_from : (a m : ℕ) → k < a → count_by fits (range_with_len a m) ≡ 0
  none_from a zero lt = refl
  none_from a (suc m) lt = skips fits a (range_with_len (a + 1) m) (high_not a lt) ∙ none_from (a + 1) m (omega (arith, lt))

  all_from : (a m : ℕ) → a ≤ suc k → k < a + m → count_by fits (range_with_len a m) + a ≡ suc k
  all_from a zero le lt = omega (arith, le, lt)
  all_from a (suc m) le lt = ⊎_elim
      (λ (h : k < a). let z = none_from a (suc m) h in omega (arith, z, h, le))
      (λ (h : a ≤ k). let rest = all_from (a + 1) m (omega (arith, h)) (omega (arith, lt)) in
      let one = keeps fits a (range_with_len (a + 1) m) (low_fits a h) in
      omega (arith, rest, one))
      (cases_lt k a)

  pub small : (j : ℕ) → j < 2 ^ j
  small zero = omega arith
  small (suc j) = omega (arith, small j)

  pub counted : floor_log2 n ≡ k
  unfolding floor_log2
  counted =
      let z = all_from 1 n (omega arith) (let a = small k in omega (arith, a, log.at_most)) in
      omega (arith, z)

pub floor_log2_is : (n : ℕ) → 1 ≤ n → IsFloorLog2 n (floor_log2 n)
floor_log2_is n some = let h = floor_log2_is_one n some in subst (IsFloorLog2 n) (sym (counted n h.0 h.1)) h.1
