-- The fields of a line.
use Rattle.std.specs.Prelude.{ℕ, Bool, true, false, filter, ◌==◌, ◌||◌, List, [], ◌∷◌}
use Rattle.std.specs.List.{slice_split}

-- a space, a tab or a carriage return
abbrev pub is_blank : ℕ → Bool
is_blank b = b == 32 || b == 9 || b == 13

abbrev pub is_nonempty : List ℕ → Bool
is_nonempty [] = false
is_nonempty (b ∷ bs) = true

-- the fields: the longest runs of bytes that are no blanks
abbrev pub fields_of : List ℕ → List (List ℕ)
fields_of line = filter is_nonempty (slice_split is_blank line)
