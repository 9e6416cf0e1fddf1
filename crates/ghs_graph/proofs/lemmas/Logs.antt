-- The floor of log2, and the bound.
use Rattle.std.proofs.Common.{◌≡◌, ℕ, zero, suc, ◌+◌, ◌*◌, ◌^◌, ◌≤◌, ◌<◌, ⊎_elim, refl, ◌∙◌, ap, arith}
use Rattle.std.proofs.Math.Pow.{pow_mono}
use Rattle.std.proofs.lemmas.Grind.{pow_more}
use Rattle.std.proofs.lemmas.Bool.{cases_lt}
use Rattle.ghs_graph.specs.Bound.{IsFloorLog2}
use Rattle.ghs_graph.specs.Laws.{FloorLog2IsOne, BoundIsOne}

pub floor_log2_between : (n k : ℕ) → 2 ^ k ≤ n → n < 2 * 2 ^ k → IsFloorLog2 n k
floor_log2_between n k low high = record {
  at_most = low;
  greatest = λ j le. ⊎_elim
      (λ (lt : k < j). absurd (omega (arith, pow_mono {i = k + 1} {j = j} (omega arith), pow_more 2 k)))
      (λ ge. ge)
      (cases_lt k j);
}

-- there is one at most
pub floor_log2_same : (n j k : ℕ) → IsFloorLog2 n j → IsFloorLog2 n k → j ≡ k
floor_log2_same n j k a b = omega (arith, a.greatest k b.at_most, b.greatest j a.at_most)

-- one more than n has that of n, or one more
pub some_floor_log2 : (n : ℕ) → (k : ℕ) × (2 ^ k ≤ suc n) × (suc n < 2 * 2 ^ k)
some_floor_log2 zero = (0, omega arith, omega arith)
some_floor_log2 (suc n) =
    let h : (k : ℕ) × (2 ^ k ≤ suc n) × (suc n < 2 * 2 ^ k) = some_floor_log2 n in
    ⊎_elim
    (λ (lt : suc (suc n) < 2 * 2 ^ h.0). (h.0, omega (arith, h.1), lt))
    (λ ge. (h.0 + 1, omega (arith, pow_more 2 h.0, h.2), omega (arith, pow_more 2 h.0, h.2)))
    (cases_lt (suc (suc n)) (2 * 2 ^ h.0))

pub floor_log2_is_one : FloorLog2IsOne
floor_log2_is_one zero low = absurd (omega arith)
floor_log2_is_one (suc n) low =
    let h : (k : ℕ) × (2 ^ k ≤ suc n) × (suc n < 2 * 2 ^ k) = some_floor_log2 n in
    let is : IsFloorLog2 (suc n) h.0 = floor_log2_between (suc n) h.0 h.1 h.2 in
    (h.0, is, λ j other. floor_log2_same (suc n) j h.0 other is)

pub bound_is_one : BoundIsOne
bound_is_one n e low =
    let h : (k : ℕ) × IsFloorLog2 n k × ((j : ℕ) → IsFloorLog2 n j → j ≡ k) = floor_log2_is_one n low in
    (2 * e + 5 * (n * h.0), record { levels = h.0; log2 = h.1; bound = refl }, λ c b. b.bound ∙ ap (λ k. 2 * e + 5 * (n * k)) (h.2 b.levels b.log2))
