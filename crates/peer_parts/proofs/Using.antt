-- A row that applies once more, where its place is known.
use Rattle.std.proofs.Common.{◌≡◌, ℕ, zero, suc, ◌+◌, Some, None, List, [], ◌∷◌, ◌++◌, set, refl, ap, arith}
use Rattle.std.specs.List.{slice_index_or}
use Rattle.peer_parts.specs.declared.rows.RowCount.{RowCount}
use Rattle.peer_parts.specs.Kept.{IsPlaceOf, with_use}

-- the rows, where the one at a place has applied once more
pub used_at : (xs : List RowCount) (row : List ℕ) (i : ℕ) (d : RowCount) → IsPlaceOf xs row (Some i) →
    set xs i (record (slice_index_or xs i d) { times = (slice_index_or xs i d).times + 1 }) ≡ with_use xs row
used_at [] row i d is = absurd (let lt = is.0 in omega (arith, lt))
used_at (x ∷ xs) row zero d is = rw is.1 refl
used_at (x ∷ xs) row (suc i) d is =
    rw (is.2 0 (omega arith))
    (ap (λ (l : List RowCount). x ∷ l)
    (used_at xs row i d (let lt = is.0 in (omega (arith, lt), is.1, λ j less. is.2 (suc j) (omega (arith, less))))))

-- and where it is none of them
pub used_last : (xs : List RowCount) (row : List ℕ) → IsPlaceOf xs row None → xs ++ record { row = row; times = 1 } ∷ [] ≡ with_use xs row
used_last [] row none = refl
used_last (x ∷ xs) row none =
    rw (none 0 (omega arith))
    (ap (λ (l : List RowCount). x ∷ l) (used_last xs row (λ i lt. none (suc i) (omega (arith, lt)))))
