-- How many messages a run may send.
use Rattle.std.specs.Prelude.{◌≡◌, ℕ, ◌+◌, ◌*◌, ◌^◌, ◌≤◌}

-- k is the greatest number with 2 to the k at most n
pub record IsFloorLog2 (n k : ℕ) : Type 0 where
  pub at_most : 2 ^ k ≤ n
  pub greatest : (j : ℕ) → 2 ^ j ≤ n → j ≤ k

-- twice the links, and five times the nodes times their floor of log2
pub record IsBound (n e b : ℕ) : Type 0 where
  pub levels : ℕ
  pub log2 : IsFloorLog2 n levels
  pub bound : b ≡ 2 * e + 5 * (n * levels)
