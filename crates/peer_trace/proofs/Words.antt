-- The fields of lines are words, and lines of words have a text.
use Rattle.std.proofs.Common.{◌≡◌, ◌<◌, ◌∙◌, ℕ, Bool, true, false, cond, not, ◌||◌, ◌==◌, List, [], ◌∷◌, ◌++◌, length, filter, map, refl, ap, ap₂, arith}
use Rattle.std.specs.List.{AllByRecursion, onto_first, slice_split}
use Rattle.std.proofs.lemmas.Bool.{and_from, and_parts, not-true, not_from_false}
use Rattle.ghs_lines.specs.Fields.{fields_of, is_blank, is_nonempty}
use Rattle.ghs_lines.specs.Lines.{lines_of}
use Rattle.ghs_lines.proofs.lemmas.Words.{all_plain, fields_of-word, has_no_feed, has_no_feed-word, is_plain, lines_of-line}
use Rattle.peer_trace.specs.Head.{fields_in}

-- some bytes, none of which is a blank or a line feed
abbrev pub IsWord : List ℕ → Type 0
IsWord word = (0 < length word) × (all_plain word ≡ true)

-- the fields of each line are words
abbrev pub AreWords : List (List (List ℕ)) → Type 0
AreWords lines = AllByRecursion (AllByRecursion IsWord) lines

-- the parts of a line without a line feed

abbrev ArePlain : List (List ℕ) → Type 0
ArePlain parts = AllByRecursion (λ part. all_plain part ≡ true) parts

neither : (x y : Bool) → x ≡ false → y ≡ false → not (x || y) ≡ true
neither false false e f = refl
neither false true e f = cc
neither true y e f = cc

part_plain : (blank : Bool) (b : ℕ) (parts : List (List ℕ)) → is_blank b ≡ blank → (b == 10) ≡ false → ArePlain parts
    → ArePlain (cond blank ([] ∷ parts) (onto_first b parts))
part_plain true b parts e f h = (refl, h)
part_plain false b [] e f h = (and_from (is_plain b) true (neither (is_blank b) (b == 10) e f) refl, tt)
part_plain false b (part ∷ parts) e f h = (and_from (is_plain b) (all_plain part) (neither (is_blank b) (b == 10) e f) h.0, h.1)

parts_plain : (line : List ℕ) → has_no_feed line ≡ true → ArePlain (slice_split is_blank line)
parts_plain [] none = (refl, tt)
parts_plain (b ∷ line) none =
    let parts = and_parts (not (b == 10)) (has_no_feed line) none in
    part_plain (is_blank b) b (slice_split is_blank line) refl (not-true (b == 10) parts.0) (parts_plain line parts.1)

nonempty_words : (parts : List (List ℕ)) → ArePlain parts → AllByRecursion IsWord (filter is_nonempty parts)
nonempty_words [] plain = tt
nonempty_words ([] ∷ parts) plain = nonempty_words parts plain.1
nonempty_words ((b ∷ part) ∷ parts) plain = ((omega arith, plain.0), nonempty_words parts plain.1)

-- the lines of a text

abbrev AreFree : List (List ℕ) → Type 0
AreFree lines = AllByRecursion (λ line. has_no_feed line ≡ true) lines

line_free : (feed : Bool) (b : ℕ) (lines : List (List ℕ)) → (b == 10) ≡ feed → AreFree lines → AreFree (cond feed ([] ∷ lines) (onto_first b lines))
line_free true b lines e h = (refl, h)
line_free false b [] e h = (and_from (not (b == 10)) true (not_from_false (b == 10) e) refl, tt)
line_free false b (line ∷ lines) e h = (and_from (not (b == 10)) (has_no_feed line) (not_from_false (b == 10) e) h.0, h.1)

lines_free : (text : List ℕ) → AreFree (lines_of text)
lines_free [] = tt
lines_free (b ∷ text) = line_free (b == 10) b (lines_of text) refl (lines_free text)

words_in : (lines : List (List ℕ)) → AreFree lines → AreWords (map fields_of lines)
words_in [] free = tt
words_in (line ∷ lines) free = (nonempty_words (slice_split is_blank line) (parts_plain line free.0), words_in lines free.1)

pub fields_are_words : (text : List ℕ) → AreWords (fields_in text)
fields_are_words text = words_in (lines_of text) (lines_free text)

-- lines of words as a text

abbrev line_text : List (List ℕ) → List ℕ
line_text [] = []
line_text (word ∷ words) = word ++ 32 ∷ line_text words

abbrev pub text_of : List (List (List ℕ)) → List ℕ
text_of [] = []
text_of (words ∷ lines) = line_text words ++ 10 ∷ text_of lines

line_text_free : (words : List (List ℕ)) → AllByRecursion IsWord words → has_no_feed (line_text words) ≡ true
line_text_free [] h = refl
line_text_free (word ∷ words) h = has_no_feed-word word (32 ∷ line_text words) h.0.1 (line_text_free words h.1)

fields_of-text : (words : List (List ℕ)) → AllByRecursion IsWord words → fields_of (line_text words) ≡ words
fields_of-text [] h = refl
fields_of-text (word ∷ words) h = fields_of-word word (line_text words) h.0.0 h.0.1 ∙ ap (λ ws. word ∷ ws) (fields_of-text words h.1)

pub fields_in-text : (lines : List (List (List ℕ))) → AreWords lines → fields_in (text_of lines) ≡ lines
fields_in-text [] h = refl
fields_in-text (words ∷ lines) h =
    ap (map fields_of) (lines_of-line (line_text words) (text_of lines) (line_text_free words h.0))
    ∙ ap₂ (λ x xs. x ∷ xs) (fields_of-text words h.0) (fields_in-text lines h.1)
