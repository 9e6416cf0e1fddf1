-- Rows of flags.
use Rattle.std.specs.Prelude.{◌≡◌, ℕ, ◌≤◌, Bool, true, false, Option, List, length, take, slice_index_or, if◌then◌else◌}
use Rattle.std.specs.List.{count_by}
use Rattle.ghs_flags.specs.declared.flags.TheConstants.{BLOCK, FLAG_LIMIT}
use Rattle.ghs_flags.specs.First.{IsFirst}
use Rattle.ghs_flags.specs.Counts.{AreCounts}

-- how many flags are raised
abbrev pub count : List Bool → ℕ
count flags = count_by (λ raised. raised) flags

-- whether the flag at a place is raised; past the end none is
abbrev pub at : List Bool → ℕ → Bool
at flags i = slice_index_or flags i false

-- the flag at place i is raised, and k before it are
pub record IsKth (flags : List Bool) (k i : ℕ) : Type 0 where
  pub raised : at flags i ≡ true
  pub before : count (take i flags) ≡ k

-- the first raised flag from place i up to place e, if one is raised
abbrev pub IsFirstFrom : List Bool → ℕ → ℕ → Option ℕ → Type 0
IsFirstFrom flags i e found = IsFirst (at flags) i e found

abbrev pub one_if : Bool → ℕ
one_if raised = if raised then 1 else 0

-- the raised flags of each block are counted
pub record IsCounted (flags : List Bool) (blocks : List ℕ) : Type 0 where
  pub few : length flags ≤ FLAG_LIMIT
  pub counted : AreCounts BLOCK one_if blocks flags
