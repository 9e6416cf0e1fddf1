-- Numbers within constant texts.
use Rattle.std.specs.Prelude.{ℕ, decimal, List, ◌++◌}

-- a number between two texts
unfoldable pub around : List ℕ → ℕ → List ℕ → List ℕ
around before n after = before ++ decimal n ++ after
