-- A text, cut at a byte.
use Rattle.std.specs.Prelude.{ℕ, cond, ◌==◌, ◌-◌, length, slice_index_or, take, List, [], ◌∷◌, Option, Some, None}
use Rattle.std.specs.List.{slice_split}
use Rattle.std.specs.Option.{option_map}

-- the parts of a text, cut at each such byte: one more than there are such bytes
abbrev pub parts_at : ℕ → List ℕ → List (List ℕ)
parts_at byte text = slice_split (λ b. b == byte) text

-- the parts of a text, of which an empty one has none
abbrev pub fields_at : ℕ → List ℕ → List (List ℕ)
fields_at byte [] = []
fields_at byte (b ∷ bs) = parts_at byte (b ∷ bs)

-- what is in front of the first such byte, and what is behind it
abbrev pub cut_at : ℕ → List ℕ → Option (List ℕ × List ℕ)
cut_at byte [] = None
cut_at byte (b ∷ bs) = cond (b == byte) (Some ([], bs)) (option_map (λ cut. (b ∷ cut.0, cut.1)) (cut_at byte bs))

-- what is in front of a `)` at the end
abbrev pub closed : List ℕ → Option (List ℕ)
closed text = cond (slice_index_or text (length text - 1) 0 == 41) (Some (take (length text - 1) text)) None
