-- What fields are made of: words, numbers, states and messages.
use Rattle.std.specs.Prelude.{ℕ, Bool, false, cond, not, ◌&&◌, ◌||◌, ◌==◌, nat_le, List, [], ◌∷◌, Option, Some, None}
use Rattle.std.specs.Char.{is_ascii_alphanumeric}
use Rattle.std.specs.List.{list_all}
use Rattle.std.specs.Option.{is_some}
use Rattle.ghs_lines.specs.Fields.{is_nonempty}
use Rattle.ghs_lines.specs.Numbers.{number_of}
use Rattle.own_book.specs.Parts.{closed, cut_at, parts_at}

-- printable ASCII, a blank among it
abbrev pub is_printable : ℕ → Bool
is_printable byte = nat_le 32 byte && nat_le byte 126

-- a letter, a digit or `_`
abbrev pub is_word_byte : ℕ → Bool
is_word_byte byte = is_ascii_alphanumeric byte || byte == 95

-- no blank, so that a text is one field of a line
abbrev pub has_no_blank : List ℕ → Bool
has_no_blank text = list_all (λ b. not (b == 32)) text

-- a word: letters, digits and `_`, one at least
abbrev pub is_word : List ℕ → Bool
is_word field = is_nonempty field && list_all is_word_byte field

-- a zero in front of another byte
abbrev pub has_leading_zero : List ℕ → Bool
has_leading_zero [] = false
has_leading_zero (b ∷ []) = false
has_leading_zero (b ∷ c ∷ more) = b == 48

-- the number that a field is: of 32 bits, without leading zeros, so that a number has one text
abbrev pub plain_number : List ℕ → Option ℕ
plain_number field = cond (has_leading_zero field) None (number_of 4294967295 field)

abbrev pub is_number : List ℕ → Bool
is_number field = is_some (plain_number field)

-- `SMALLER-LARGER`
abbrev pub are_ends : Option (List ℕ × List ℕ) → Bool
are_ends None = false
are_ends (Some (smaller, larger)) = is_number smaller && is_number larger

-- `WEIGHT:SMALLER-LARGER`
abbrev pub are_key_parts : Option (List ℕ × List ℕ) → Bool
are_key_parts None = false
are_key_parts (Some (weight, ends)) = is_number weight && are_ends (cut_at 45 ends)

abbrev pub is_key : List ℕ → Bool
is_key field = are_key_parts (cut_at 58 field)

-- `NAME=VALUE`
abbrev pub has_name : Option (List ℕ × List ℕ) → Bool
has_name None = false
has_name (Some (name, value)) = is_word name

abbrev pub is_variable : List ℕ → Bool
is_variable part = has_name (cut_at 61 part)

-- variables, a `;` between two, and no blank
abbrev pub is_state : List ℕ → Bool
is_state field = has_no_blank field && list_all is_variable (parts_at 59 field)

-- `VALUE,..)`, with something in front of the `)`
abbrev pub are_arguments : Option (List ℕ) → Bool
are_arguments None = false
are_arguments (Some values) = is_nonempty values

-- `KIND(VALUE,..)`
abbrev pub are_message_parts : Option (List ℕ × List ℕ) → List ℕ → Bool
are_message_parts None field = is_word field
are_message_parts (Some (kind, arguments)) field = is_word kind && are_arguments (closed arguments)

-- `KIND`, or `KIND(VALUE,..)`, without a blank
abbrev pub is_message : List ℕ → Bool
is_message field = has_no_blank field && are_message_parts (cut_at 40 field) field
