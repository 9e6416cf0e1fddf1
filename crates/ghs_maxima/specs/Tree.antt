-- The tree of a row of n numbers: these stand from place n on, and below place k are places 2 k and 2 k + 1.
use Rattle.std.specs.Prelude.{◌≡◌, ◌≢◌, ℕ, ◌+◌, ◌*◌, ◌<◌, List, length, max, slice_index}

-- place k has the greater of what stands below it
abbrev pub IsTop : List ℕ → ℕ → Type 0
IsTop tree k = slice_index tree k ≡ max (slice_index tree (2 * k)) (slice_index tree (2 * k + 1))

-- so has each place before the row, place p left out; place 0 is none
abbrev pub AreTopsBut : ℕ → ℕ → List ℕ → Type 0
AreTopsBut n p tree = (k : ℕ) → 0 < k → k < n → k ≢ p → IsTop tree k

pub record IsTree (n : ℕ) (tree : List ℕ) : Type 0 where
  pub many : length tree ≡ 2 * n
  pub tops : AreTopsBut n 0 tree
