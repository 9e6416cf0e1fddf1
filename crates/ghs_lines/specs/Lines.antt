-- The lines of a text.
use Rattle.std.specs.Prelude.{ℕ, cond, ◌==◌, List, [], ◌∷◌}
use Rattle.std.specs.List.{onto_first}

-- the lines: cut at each line feed, of which a last one begins no new line
abbrev pub lines_of : List ℕ → List (List ℕ)
lines_of [] = []
lines_of (b ∷ bs) = cond (b == 10) ([] ∷ lines_of bs) (onto_first b (lines_of bs))
