-- The messages of the seven kinds.
use Rattle.std.proofs.Common.{◌≡◌, ℕ, suc, zero, ◌<◌, List, [], ◌∷◌, arith, slice_index, slice_index_or}

-- seven numbers of a list, listed once more before an eighth
pub seven_of : (s : List ℕ) (f : ℕ → ℕ) → ((k : ℕ) → k < 7 → slice_index s k ≡ f k) → (k : ℕ) → k < 7 →
    slice_index
    (slice_index_or s 0 0
    ∷ slice_index_or s 1 0
    ∷ slice_index_or s 2 0
    ∷ slice_index_or s 3 0
    ∷ slice_index_or s 4 0
    ∷ slice_index_or s 5 0
    ∷ slice_index_or s 6 0
    ∷ 0
    ∷ []) k
    ≡ f k
seven_of s f each zero lt = each 0 lt
seven_of s f each (suc zero) lt = each 1 lt
seven_of s f each (suc (suc zero)) lt = each 2 lt
seven_of s f each (suc (suc (suc zero))) lt = each 3 lt
seven_of s f each (suc (suc (suc (suc zero)))) lt = each 4 lt
seven_of s f each (suc (suc (suc (suc (suc zero))))) lt = each 5 lt
seven_of s f each (suc (suc (suc (suc (suc (suc zero)))))) lt = each 6 lt
seven_of s f each (suc (suc (suc (suc (suc (suc (suc k))))))) lt = absurd (omega (arith, lt))
