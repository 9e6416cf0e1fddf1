-- The first place that passes a test.
use Rattle.std.specs.Prelude.{◌≡◌, ℕ, ◌<◌, ◌≤◌, Bool, true, false, Option, Some, None}

-- no place from i up to e passes
abbrev pub NonePasses : (ℕ → Bool) → ℕ → ℕ → Type 0
NonePasses passes i e = (j : ℕ) → i ≤ j → j < e → passes j ≡ false

-- the first place from i up to e that passes, if one does
abbrev pub IsFirst : (ℕ → Bool) → ℕ → ℕ → Option ℕ → Type 0
IsFirst passes i e None = NonePasses passes i e
IsFirst passes i e (Some j) = (i ≤ j) × (j < e) × (passes j ≡ true) × NonePasses passes i j
