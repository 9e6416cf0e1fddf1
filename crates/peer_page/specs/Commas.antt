-- Commas between the parts of a list.
use Rattle.std.specs.Prelude.{ℕ, zero, suc, List, [], codes}
use Rattle.std.specs.List.{join_by, range_with_len}

-- what stands before a part, by its number from 0 on
abbrev pub comma : ℕ → List ℕ
comma zero = []
comma (suc k) = codes ","

-- the parts 0 to n - 1, with a comma between each and the next
abbrev pub parts_to : ℕ → (ℕ → List ℕ) → List ℕ
parts_to n part = join_by part (codes ",") (range_with_len 0 n)
