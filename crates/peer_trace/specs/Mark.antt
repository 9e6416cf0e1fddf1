-- The mark of a run of a user's own protocol: which book it goes by.
use Rattle.std.specs.Prelude.{ℕ, ◌==◌, ◌&&◌, ◌||◌, Bool, not, codes, cond, length, nat_le, List, [], ◌∷◌, Option, Some, None}
use Rattle.std.specs.List.{list_all}
use Rattle.std.specs.Str.{bytes_eq}
use Rattle.ghs_lines.specs.Fields.{is_blank, is_nonempty}
use Rattle.ghs_lines.specs.Numbers.{number_of}
use Rattle.peer_trace.specs.declared.mark.TheConstants.{ENTRY_LIMIT}

-- the protocol's name, how many entries the book had, and the SHA-256 of their text in hexadecimal
pub record Mark : Type 0 where
  pub name : List ℕ
  pub entries : ℕ
  pub sum : List ℕ

abbrev pub marked : List ℕ → ℕ → List ℕ → Mark
marked name entries sum = record { name = name; entries = entries; sum = sum }

-- one field of a line: some bytes, none of which is a blank or a line feed
abbrev pub is_name_byte : ℕ → Bool
is_name_byte byte = not (is_blank byte || byte == 10)

abbrev pub is_name : List ℕ → Bool
is_name field = is_nonempty field && list_all is_name_byte field

-- 64 digits in hexadecimal, with letters in lower case
abbrev pub is_lower_digit : ℕ → Bool
is_lower_digit byte = nat_le 48 byte && nat_le byte 57 || nat_le 97 byte && nat_le byte 102

abbrev pub is_sum : List ℕ → Bool
is_sum field = length field == 64 && list_all is_lower_digit field

-- the fields of a head `trace own NAME entries N sum HEX COUNT`
abbrev pub own_fields : Mark → List ℕ → List ℕ → List (List ℕ)
own_fields mark entries count =
    codes "trace" ∷ codes "own" ∷ mark.name ∷ codes "entries" ∷ entries ∷ codes "sum" ∷ mark.sum ∷ count ∷ []

-- the mark that its fields are
abbrev pub mark_by : List ℕ → Option ℕ → List ℕ → Option Mark
mark_by name None sum = None
mark_by name (Some entries) sum = cond (is_sum sum) (Some (marked name entries sum)) None

-- the mark in the fields behind a `trace`
abbrev pub mark_behind : List (List ℕ) → Option Mark
mark_behind (own ∷ name ∷ entries ∷ number ∷ sum ∷ digits ∷ count ∷ []) =
    cond (bytes_eq own (codes "own") && bytes_eq entries (codes "entries") && bytes_eq sum (codes "sum"))
    (mark_by name (number_of ENTRY_LIMIT number) digits)
    None
mark_behind _ = None

-- the mark in the fields of a line: none where they are no such head's
abbrev pub marked_by : List (List ℕ) → Option Mark
marked_by [] = None
marked_by (first ∷ more) = cond (bytes_eq first (codes "trace")) (mark_behind more) None

-- such fields without the mark
abbrev pub without_mark : List (List ℕ) → List (List ℕ)
without_mark (first ∷ own ∷ name ∷ entries ∷ number ∷ sum ∷ digits ∷ more) = first ∷ more
without_mark fields = fields
