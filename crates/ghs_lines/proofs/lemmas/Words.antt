-- Words without blanks and line feeds, decimal numbers among them: written into a line, they are its fields.
use Rattle.std.proofs.Common.{◌≡◌, ◌<◌, ◌≤◌, ◌^◌, ◌∙◌, ℕ, Bool, true, false, not, ◌&&◌, ◌||◌, ◌==◌, Some, List, [], ◌∷◌, ◌++◌, length, filter, refl, sym, ap, arith, append-nil, decimal}
use Rattle.std.specs.Char.{is_ascii_digit}
use Rattle.std.specs.List.{onto_first, slice_split}
use Rattle.std.specs.Prelude.{nat_le}
use Rattle.std.specs.Str.{all_ascii_digits}
use Rattle.std.specs.Str.Parse.{digits_value}
use Rattle.std.proofs.lemmas.Bool.{and_from, and_parts, cond-false, leb-true, ne_eqb, not-true, not_from_false, or_parts}
use Rattle.std.proofs.lemmas.Fmt.{decimal_nonempty, digits_decimal, digits_value-decimal}
use Rattle.std.proofs.lemmas.List.Splits.{slice_split-cons_yes, slice_split-cons_no}
use Rattle.std.proofs.lemmas.Str.Parse.{IsNumeralModel, numerals_by_value, tells_all_ascii_digits}
use Rattle.ghs_lines.specs.Fields.{fields_of, is_blank, is_nonempty}
use Rattle.ghs_lines.specs.Lines.{lines_of}
use Rattle.ghs_lines.specs.Numbers.{number_of}
use Rattle.ghs_lines.proofs.lemmas.Digits.{number_of-digits}

-- neither a blank nor a line feed
abbrev pub is_plain : ℕ → Bool
is_plain b = not (is_blank b || b == 10)

abbrev pub all_plain : List ℕ → Bool
all_plain [] = true
all_plain (b ∷ bs) = is_plain b && all_plain bs

abbrev pub has_no_feed : List ℕ → Bool
has_no_feed [] = true
has_no_feed (b ∷ bs) = not (b == 10) && has_no_feed bs

plain_parts : (b : ℕ) → is_plain b ≡ true → (is_blank b ≡ false) × ((b == 10) ≡ false)
plain_parts b h = or_parts (is_blank b) (b == 10) (not-true _ h)

-- a word has no line feed, whatever without one is behind it
pub has_no_feed-word : (word rest : List ℕ) → all_plain word ≡ true → has_no_feed rest ≡ true → has_no_feed (word ++ rest) ≡ true
has_no_feed-word [] rest plain none = none
has_no_feed-word (b ∷ word) rest plain none =
    let parts = and_parts (is_plain b) (all_plain word) plain in
    and_from _ _ (not_from_false _ (plain_parts b parts.0).1) (has_no_feed-word word rest parts.1 none)

pub has_no_feed-last : (word : List ℕ) → all_plain word ≡ true → has_no_feed word ≡ true
has_no_feed-last word plain = rw (← append-nil word) (has_no_feed-word word [] plain refl)

-- what is in front of the first line feed is the first line
pub lines_of-line : (line rest : List ℕ) → has_no_feed line ≡ true → lines_of (line ++ 10 ∷ rest) ≡ line ∷ lines_of rest
lines_of-line [] rest none = refl
lines_of-line (b ∷ line) rest none =
    let parts = and_parts (not (b == 10)) (has_no_feed line) none in
    cond-false (b == 10) _ _ (not-true _ parts.0) ∙ ap (onto_first b) (lines_of-line line rest parts.1)

split_word : (word rest : List ℕ) → all_plain word ≡ true → slice_split is_blank (word ++ 32 ∷ rest) ≡ word ∷ slice_split is_blank rest
split_word [] rest plain = slice_split-cons_yes is_blank 32 rest refl
split_word (b ∷ word) rest plain =
    let parts = and_parts (is_plain b) (all_plain word) plain in
    slice_split-cons_no is_blank b (word ++ 32 ∷ rest) (plain_parts b parts.0).0 ∙ ap (onto_first b) (split_word word rest parts.1)

split_last : (word : List ℕ) → all_plain word ≡ true → slice_split is_blank word ≡ word ∷ []
split_last [] plain = refl
split_last (b ∷ word) plain =
    let parts = and_parts (is_plain b) (all_plain word) plain in
    slice_split-cons_no is_blank b word (plain_parts b parts.0).0 ∙ ap (onto_first b) (split_last word parts.1)

-- a word and a space in front of a line are its first field
pub fields_of-word : (word rest : List ℕ) → 0 < length word → all_plain word ≡ true → fields_of (word ++ 32 ∷ rest) ≡ word ∷ fields_of rest
fields_of-word [] rest some plain = absurd (omega arith)
fields_of-word (b ∷ word) rest some plain = ap (filter is_nonempty) (split_word (b ∷ word) rest plain)

-- a word alone is the one field
pub fields_of-last : (word : List ℕ) → 0 < length word → all_plain word ≡ true → fields_of word ≡ word ∷ []
fields_of-last [] some plain = absurd (omega arith)
fields_of-last (b ∷ word) some plain = ap (filter is_nonempty) (split_last (b ∷ word) plain)

digit_plain : (b : ℕ) → is_ascii_digit b ≡ true → is_plain b ≡ true
digit_plain b h =
    let parts = and_parts (nat_le 48 b) (nat_le b 57) h in
    let low : 48 ≤ b = leb-true 48 b parts.0 in
    rw (
      ne_eqb b 32 (λ z. absurd (omega arith)),
      ne_eqb b 9 (λ z. absurd (omega arith)),
      ne_eqb b 13 (λ z. absurd (omega arith)),
      ne_eqb b 10 (λ z. absurd (omega arith)),
    )

pub digits_plain : (bs : List ℕ) → all_ascii_digits bs ≡ true → all_plain bs ≡ true
digits_plain [] h = refl
digits_plain (b ∷ bs) h =
    let parts = and_parts (is_ascii_digit b) (all_ascii_digits bs) h in and_from _ _ (digit_plain b parts.0) (digits_plain bs parts.1)

numerals : IsNumeralModel (λ ds. all_ascii_digits ds ≡ true) (digits_value 10)
numerals = numerals_by_value _ tells_all_ascii_digits

-- a number's decimal digits are a word, and the field of that number
module _ (n : ℕ) (small : n < 2 ^ 64) where
  pub decimal_plain : all_plain (decimal n) ≡ true
  decimal_plain = digits_plain (decimal n) (digits_decimal numerals n small)

  pub number_of-decimal : (most : ℕ) → n ≤ most → number_of most (decimal n) ≡ Some n
  number_of-decimal most within =
      let value = digits_value-decimal numerals n small in
      sym (number_of-digits most (decimal n) (decimal_nonempty n small) (digits_decimal numerals n small) (rw value within)) ∙ ap Some value
