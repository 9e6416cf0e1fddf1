-- Rows of numbers.
use Rattle.std.specs.Prelude.{◌≡◌, ℕ, ◌<◌, ◌≤◌, List, length, slice_index}

-- the number at place i is above 0, and none of the row is greater
pub record IsGreatest (numbers : List ℕ) (i : ℕ) : Type 0 where
  pub within : i < length numbers
  pub some : 0 < slice_index numbers i
  pub greatest : (j : ℕ) → slice_index numbers j ≤ slice_index numbers i

abbrev pub AreZeros : List ℕ → Type 0
AreZeros numbers = (i : ℕ) → slice_index numbers i ≡ 0
