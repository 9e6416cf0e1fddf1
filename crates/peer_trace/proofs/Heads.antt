-- Heads with and without a name, and what the lines say then.
use Rattle.std.proofs.Common.{◌≡◌, ◌≢◌, ◌∙◌, ℕ, Bool, true, false, cond, codes, List, [], ◌∷◌, ◌++◌, length, map, refl, sym, ap, subst, append_assoc, arith, IfNone, Option, Some, None}
use Rattle.std.specs.List.{AllByRecursion}
use Rattle.std.specs.Str.{bytes_eq}
use Rattle.std.proofs.lemmas.Bool.{cond-false}
use Rattle.std.proofs.lemmas.Simd.{map-map}
use Rattle.ghs_lines.specs.Fields.{fields_of}
use Rattle.ghs_lines.specs.Lines.{lines_of}
use Rattle.ghs_lines.proofs.lemmas.Words.{fields_of-last, fields_of-word, has_no_feed-last, has_no_feed-word, lines_of-line}
use Rattle.peer_texts.specs.Line.{meaning_of, meanings}
use Rattle.peer_trace.specs.Head.{fields_in, has_name, head_fields, first_fields, mark_in, named_behind, named_by, plain_fields, plain_head, plain_lines, plain_of, protocol_in, without_second}
use Rattle.peer_trace.specs.Mark.{Mark, mark_behind, marked_by, without_mark}
use Rattle.peer_trace.specs.Reading.{says}
use Rattle.peer_trace.specs.declared.protocol.Protocol.{Protocol}
use Rattle.peer_trace.specs.declared.protocol.Protocol.TheVariants.{Ghs, Boruvka, Echo, Gather}
use Rattle.peer_trace.proofs.Words.{AreWords, IsWord, fields_are_words}

-- lines without a name

plain_head-same : (named : Option Protocol) (fields : List (List ℕ)) → has_name named ≡ false → plain_head named fields ≡ fields
plain_head-same named fields nameless = cond-false (has_name named) (without_second fields) fields nameless

plain_fields-same : (mark : Option Mark) (named : Option Protocol) (fields : List (List ℕ)) → mark ≡ None → has_name named ≡ false →
    plain_fields mark named fields ≡ fields
plain_fields-same None named fields unmarked nameless = plain_head-same named fields nameless
plain_fields-same (Some mark) named fields unmarked nameless = cc

pub plain_lines-same : (lines : List (List (List ℕ))) → marked_by (first_fields lines) ≡ None → has_name (named_by (first_fields lines)) ≡ false →
    plain_lines lines ≡ lines
plain_lines-same [] unmarked other = refl
plain_lines-same ([] ∷ lines) unmarked other = ap (λ ls. [] ∷ ls) (plain_lines-same lines unmarked other)
plain_lines-same ((first ∷ more) ∷ lines) unmarked other =
    ap (λ fields. fields ∷ lines) (plain_fields-same (marked_by (first ∷ more)) (named_by (first ∷ more)) (first ∷ more) unmarked other)

without_second-words : (fields : List (List ℕ)) → AllByRecursion IsWord fields → AllByRecursion IsWord (without_second fields)
without_second-words [] h = h
without_second-words (first ∷ []) h = h
without_second-words (first ∷ name ∷ more) h = (h.0, h.1.1)

words_either : (has : Bool) (fields : List (List ℕ)) → AllByRecursion IsWord fields →
    AllByRecursion IsWord (cond has (without_second fields) fields)
words_either true fields h = without_second-words fields h
words_either false fields h = h

plain_head-words : (named : Option Protocol) (fields : List (List ℕ)) → AllByRecursion IsWord fields → AllByRecursion IsWord (plain_head named fields)
plain_head-words named fields h = words_either (has_name named) fields h

without_mark-words : (fields : List (List ℕ)) → AllByRecursion IsWord fields → AllByRecursion IsWord (without_mark fields)
without_mark-words [] h = h
without_mark-words (a ∷ []) h = h
without_mark-words (a ∷ b ∷ []) h = h
without_mark-words (a ∷ b ∷ c ∷ []) h = h
without_mark-words (a ∷ b ∷ c ∷ d ∷ []) h = h
without_mark-words (a ∷ b ∷ c ∷ d ∷ e ∷ []) h = h
without_mark-words (a ∷ b ∷ c ∷ d ∷ e ∷ f ∷ []) h = h
without_mark-words (a ∷ b ∷ c ∷ d ∷ e ∷ f ∷ g ∷ more) h = (h.0, h.1.1.1.1.1.1.1)

plain_fields-words : (mark : Option Mark) (named : Option Protocol) (fields : List (List ℕ)) → AllByRecursion IsWord fields →
    AllByRecursion IsWord (plain_fields mark named fields)
plain_fields-words None named fields h = plain_head-words named fields h
plain_fields-words (Some mark) named fields h = without_mark-words fields h

plain_of-words : (fields : List (List ℕ)) → AllByRecursion IsWord fields → AllByRecursion IsWord (plain_of fields)
plain_of-words fields h = plain_fields-words (marked_by fields) (named_by fields) fields h

pub plain_lines-words : (lines : List (List (List ℕ))) → AreWords lines → AreWords (plain_lines lines)
plain_lines-words [] h = h
plain_lines-words ([] ∷ lines) h = (h.0, plain_lines-words lines h.1)
plain_lines-words ((first ∷ more) ∷ lines) h = (plain_of-words (first ∷ more) h.0, h.1)

pub meanings-fields : (text : List ℕ) → map meaning_of (fields_in text) ≡ meanings text
meanings-fields text = map-map meaning_of fields_of (lines_of text)

-- a text with the lines of another, but for the name, says the same
pub says-plain : (plain text : List ℕ) → fields_in plain ≡ plain_lines (fields_in text) → meanings plain ≡ says text
says-plain plain text e = sym (meanings-fields plain) ∙ ap (map meaning_of) e

pub says-same : (text : List ℕ) → mark_in text ≡ None → has_name (protocol_in text) ≡ false → meanings text ≡ says text
says-same text unmarked other = says-plain text text (sym (plain_lines-same (fields_in text) unmarked other))

-- the first line of a text

first_line : (text line after : List ℕ) → lines_of text ≡ line ∷ lines_of after → fields_in text ≡ fields_of line ∷ fields_in after
first_line text line after e = ap (map fields_of) e

pub fields_in-blank : (text line after : List ℕ) → lines_of text ≡ line ∷ lines_of after → fields_of line ≡ [] →
    fields_in text ≡ [] ∷ fields_in after
fields_in-blank text line after e blank = first_line text line after e ∙ ap (λ fields. fields ∷ fields_in after) blank

pub first_fields-blank : (text line after : List ℕ) → lines_of text ≡ line ∷ lines_of after → fields_of line ≡ [] →
    first_fields (fields_in text) ≡ first_fields (fields_in after)
first_fields-blank text line after e blank = ap first_fields (fields_in-blank text line after e blank)

first_some : (fields : List (List ℕ)) (lines : List (List (List ℕ))) (first : List ℕ) (more : List (List ℕ)) → fields ≡ first ∷ more →
    fields ≡ first_fields (fields ∷ lines)
first_some [] lines first more e = cc
first_some (a ∷ others) lines first more e = refl

pub first_fields-here : (text line after first : List ℕ) (more : List (List ℕ)) → lines_of text ≡ line ∷ lines_of after →
    fields_of line ≡ first ∷ more → fields_of line ≡ first_fields (fields_in text)
first_fields-here text line after first more e some =
    first_some (fields_of line) (fields_in after) first more some ∙ ap first_fields (sym (first_line text line after e))

pub named_head : (protocol : Protocol) (count : List ℕ) (lines : List (List (List ℕ))) →
    named_by (first_fields (head_fields protocol count ∷ lines)) ≡ Some protocol
named_head Ghs count lines = refl
named_head Boruvka count lines = refl
named_head Echo count lines = refl
named_head Gather count lines = refl

-- a head that names a protocol has no mark
unmarked_behind : (fields : List (List ℕ)) (protocol : Protocol) → named_behind fields ≡ Some protocol → mark_behind fields ≡ None
unmarked_behind [] protocol e = refl
unmarked_behind (a ∷ []) protocol e = refl
unmarked_behind (a ∷ b ∷ []) protocol e = refl
unmarked_behind (a ∷ b ∷ c ∷ more) protocol e = cc

unmarked_so : (is : Bool) (fields : List (List ℕ)) (protocol : Protocol) → cond is (named_behind fields) None ≡ Some protocol →
    cond is (mark_behind fields) None ≡ None
unmarked_so true fields protocol e = unmarked_behind fields protocol e
unmarked_so false fields protocol e = refl

unmarked_by : (fields : List (List ℕ)) (protocol : Protocol) → named_by fields ≡ Some protocol → marked_by fields ≡ None
unmarked_by [] protocol e = refl
unmarked_by (first ∷ more) protocol e = unmarked_so (bytes_eq first (codes "trace")) more protocol e

pub unmarked : (text : List ℕ) (protocol : Protocol) → protocol_in text ≡ Some protocol → mark_in text ≡ None
unmarked text protocol e = unmarked_by (first_fields (fields_in text)) protocol e

-- a line that isn't a head, of a protocol or with a mark, has its text as it is
pub plain_lines-other : (text line after first : List ℕ) (more : List (List ℕ)) → lines_of text ≡ line ∷ lines_of after →
    fields_of line ≡ first ∷ more → marked_by (fields_of line) ≡ None → named_by (fields_of line) ≡ None →
    plain_lines (fields_in text) ≡ fields_in text
plain_lines-other text line after first more e fields markless none =
    let here = first_fields-here text line after first more e fields in
    plain_lines-same (fields_in text) (ap marked_by (sym here) ∙ markless) (ap has_name (ap named_by (sym here) ∙ none))

-- seven fields are behind the `trace` of a head with a mark
pub mark_behind-others : (a b c d e : List ℕ) (fields : List (List ℕ)) → length fields ≢ 2 → mark_behind (a ∷ b ∷ c ∷ d ∷ e ∷ fields) ≡ None
mark_behind-others a b c d e [] h = refl
mark_behind-others a b c d e (f ∷ []) h = refl
mark_behind-others a b c d e (f ∷ g ∷ []) h = absurd (h refl)
mark_behind-others a b c d e (f ∷ g ∷ i ∷ more) h = refl

pub if_unmarked : {A : Type 0} (r : Option A) (fields : List (List ℕ)) → mark_behind fields ≡ None → IfNone r (mark_behind fields ≡ None)
if_unmarked None fields e = e
if_unmarked (Some x) fields e = tt

-- heads without name and mark

pub plain_of-named : (protocol : Protocol) (count : List ℕ) → plain_of (head_fields protocol count) ≡ codes "trace" ∷ count ∷ []
plain_of-named Ghs count = refl
plain_of-named Boruvka count = refl
plain_of-named Echo count = refl
plain_of-named Gather count = refl

pub plain_of-head : (fields : List (List ℕ)) (protocol : Protocol) (count : List ℕ) → fields ≡ head_fields protocol count →
    plain_of fields ≡ codes "trace" ∷ count ∷ []
plain_of-head fields protocol count e = ap plain_of e ∙ plain_of-named protocol count

pub plain_of-marked : (fields : List (List ℕ)) (mark : Mark) (count : List ℕ) → marked_by fields ≡ Some mark →
    without_mark fields ≡ codes "trace" ∷ count ∷ [] → plain_of fields ≡ codes "trace" ∷ count ∷ []
plain_of-marked fields mark count e plain = ap (λ m. plain_fields m (named_by fields) fields) e ∙ plain

pub plain_named : (protocol : Protocol) (count : List ℕ) (lines : List (List (List ℕ))) →
    plain_lines (head_fields protocol count ∷ lines) ≡ (codes "trace" ∷ count ∷ []) ∷ lines
plain_named Ghs count lines = refl
plain_named Boruvka count lines = refl
plain_named Echo count lines = refl
plain_named Gather count lines = refl

counted_line : (count after : List ℕ) → IsWord count →
    fields_in (codes "trace " ++ count ++ 10 ∷ after) ≡ (codes "trace" ∷ count ∷ []) ∷ fields_in after
counted_line count after word =
    ap (map fields_of) (lines_of-line (codes "trace" ++ 32 ∷ count) after
    (has_no_feed-word (codes "trace") (32 ∷ count) refl (has_no_feed-last count word.1)))
    ∙ ap (λ fields. fields ∷ fields_in after) (fields_of-word (codes "trace") count (omega arith) refl
    ∙ ap (λ fields. codes "trace" ∷ fields) (fields_of-last count word.0 word.1))

pub plain_lines-head : (fields : List (List ℕ)) (count : List ℕ) (lines : List (List (List ℕ))) → plain_of fields ≡ codes "trace" ∷ count ∷ [] →
    plain_lines (fields ∷ lines) ≡ (codes "trace" ∷ count ∷ []) ∷ lines
plain_lines-head [] count lines e = cc
plain_lines-head (first ∷ more) count lines e = ap (λ fields. fields ∷ lines) e

-- the head written anew without name and mark
pub plain_lines-counted : (text line after count : List ℕ) → lines_of text ≡ line ∷ lines_of after →
    plain_of (fields_of line) ≡ codes "trace" ∷ count ∷ [] → fields_in (codes "trace " ++ count ++ 10 ∷ after) ≡ plain_lines (fields_in text)
plain_lines-counted text line after count e head =
    let lines = first_line text line after e in
    let words = subst AreWords lines (fields_are_words text) in
    let counted = subst (AllByRecursion IsWord) head (plain_of-words (fields_of line) words.0) in
    counted_line count after counted.1.0
    ∙ sym (ap plain_lines lines ∙ plain_lines-head (fields_of line) count (fields_in after) head)

-- as the text is put together
pub behind : (plain count after : List ℕ) →
    (((plain ++ codes "trace ") ++ count) ++ 10 ∷ []) ++ after ≡ plain ++ (codes "trace " ++ count ++ 10 ∷ after)
behind plain count after = simp append_assoc
