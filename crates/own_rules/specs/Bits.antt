-- How many bits a message of a book has.
use Rattle.std.specs.Prelude.{ℕ, suc, ◌+◌, ◌-◌, ◌*◌, ◌==◌, ◌&&◌, ◌||◌, Bool, cond, count_by, length, min, codes, List, [], ◌∷◌, Option, Some, None}
use Rattle.std.specs.List.{onto_first}
use Rattle.std.specs.Str.{bytes_eq}
use Rattle.ghs_graph.specs.Graph.{Shape}
use Rattle.ghs_bits.specs.Length.{key_width, width_of, widths_of}
use Rattle.ghs_bits.specs.declared.widths.Widths.{Widths}
use Rattle.own_book.specs.Sends.{kind_in}
use Rattle.own_book.specs.Answer.{types_in}
use Rattle.own_book.specs.Parts.{closed, cut_at}
use Rattle.own_book.specs.declared.kind.ArgumentType.{ArgumentType}
use Rattle.own_book.specs.declared.kind.ArgumentType.TheVariants as type
use Rattle.own_rules.specs.Texts.{Text, kinds_many, types_of}

-- by widths of numbers, weights and levels, and by that of the number of links
abbrev pub argument_bits : Widths → ℕ → ArgumentType → Text → ℕ
argument_bits w count type.Level text = w.level
argument_bits w count type.Node text = w.number
argument_bits w count type.Weight text = w.weight
argument_bits w count type.Count text = count
argument_bits w count type.Key text = key_width w
argument_bits w count type.MaybeKey text = cond (bytes_eq text (codes "-")) 1 (1 + key_width w)
argument_bits w count type.Keys text = count + count_by (λ b. b == 58) text * key_width w
argument_bits w count type.Bit text = 1
argument_bits w count type.Text text = 8 * length text
argument_bits w count (type.Bits bits) text = bits

-- the values of a message: a `,` inside brackets parts none
abbrev pub opens_bracket : ℕ → Bool
opens_bracket b = b == 40 || b == 91 || b == 123

abbrev pub closes_bracket : ℕ → Bool
closes_bracket b = b == 41 || b == 93 || b == 125

abbrev pub deeper : ℕ → ℕ → ℕ
deeper depth b = cond (opens_bracket b) (suc depth) (cond (closes_bracket b) (depth - 1) depth)

abbrev pub values_from : ℕ → Text → List Text
values_from depth [] = [] ∷ []
values_from depth (b ∷ bs) = cond (b == 44 && depth == 0) ([] ∷ values_from 0 bs) (onto_first b (values_from (deeper depth b) bs))

abbrev pub values_closed : Option Text → List Text
values_closed None = []
values_closed (Some values) = values_from 0 values

abbrev pub values_in : Option (Text × Text) → List Text
values_in None = []
values_in (Some (kind, rest)) = values_closed (closed rest)

-- each argument by its type; a value that is missing has no bytes
abbrev pub arguments_bits : Widths → ℕ → List ArgumentType → List Text → ℕ
arguments_bits w count [] values = 0
arguments_bits w count (t ∷ ts) [] = argument_bits w count t [] + arguments_bits w count ts []
arguments_bits w count (t ∷ ts) (value ∷ values) = argument_bits w count t value + arguments_bits w count ts values

-- those that say which kind it is, and those of its arguments; 4,294,967,295 at most
abbrev pub message_bits : Widths → ℕ → Text → Text → ℕ
message_bits w count kinds message =
    min 4294967295
    (width_of (kinds_many kinds - 1)
    + arguments_bits w count (types_in (types_of kinds (kind_in message (cut_at 40 message))))
    (values_in (cut_at 40 message)))

abbrev pub bits_of : Text → Shape → Text → ℕ
bits_of kinds g message = message_bits (widths_of g) (width_of (length g.keys)) kinds message
