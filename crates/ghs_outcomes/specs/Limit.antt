-- A limit of states.
use Rattle.std.specs.Prelude.{ℕ, zero, suc}

-- a limit of 0 counts as 1
abbrev pub at_least_1 : ℕ → ℕ
at_least_1 zero = 1
at_least_1 (suc n) = suc n
