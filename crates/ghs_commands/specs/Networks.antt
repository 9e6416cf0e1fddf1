-- The networks of a sweep.
use Rattle.std.specs.Prelude.{Bool, true, false, ◌||◌, nat_le, cond, codes, count_by, length, List, [], ◌∷◌, Option, Some, None}
use Rattle.std.specs.Option.{option_and_then}
use Rattle.clap.specs.Words.{Row, Text, all_of}
use Rattle.ghs_commands.specs.Values.{is_dash}

-- the values that one of a command's arguments has
abbrev pub values_in : Text → Option (Text × List Row) → Option (List Text)
values_in id command = option_and_then (λ p. all_of id p.1) command

-- of the files that are named one at most is standard input
abbrev pub are_read_once : Option (List Text) → Bool
are_read_once None = true
are_read_once (Some files) = nat_le (count_by is_dash files) 1

-- several files are named
abbrev pub are_several : Option (List Text) → Bool
are_several None = false
are_several (Some files) = nat_le 2 (length files)

-- the networks whose lines begin with names: all, or standard input where no file is named, where names are asked for; without that none,
-- but for several files
abbrev pub named_of : Bool → Option (List Text) → List Text
named_of asked None = cond asked (codes "-" ∷ []) []
named_of asked (Some files) = cond (asked || are_several (Some files)) files []
