-- The number that a field is.
use Rattle.std.specs.Prelude.{ℕ, cond, nat_le, ◌&&◌, List, Option, Some, None}
use Rattle.std.specs.Str.{all_ascii_digits}
use Rattle.std.specs.Str.Parse.{digits_value}
use Rattle.ghs_lines.specs.Fields.{is_nonempty}

-- the number that a field is: digits, leading zeros among them, of a value of at most `most`
abbrev pub number_of : ℕ → List ℕ → Option ℕ
number_of most field = let value = digits_value 10 field in
    cond (is_nonempty field && all_ascii_digits field && nat_le value most) (Some value) None
