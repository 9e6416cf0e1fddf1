-- Arc lines of the plainest form: one space between fields, and nothing else.
use Rattle.std.proofs.Common.{◌≡◌, ◌∙◌, ℕ, true, List, [], ◌∷◌, ◌++◌, append_assoc, refl, sym, ap, ap₂, arith, Some, map, length, take, drop, slice_index, add-one, ◌+◌, ◌-◌, ◌<◌, ◌≤◌, ◌^◌}
use Rattle.std.proofs.Math.Seq.{split_at}
use Rattle.std.proofs.lemmas.List.{length-take}
use Rattle.std.specs.Str.{all_ascii_digits}
use Rattle.std.specs.Str.Parse.{digits_value}
use Rattle.ghs_lines.proofs.lemmas.Digits.{number_of-digits}
use Rattle.ghs_lines.specs.Fields.{fields_of}
use Rattle.ghs_lines.specs.Lines.{lines_of}
use Rattle.ghs_lines.proofs.lemmas.Words.{digits_plain, fields_of-last, fields_of-word, has_no_feed, has_no_feed-last, has_no_feed-word, lines_of-line}
use Rattle.ghs_gr.specs.Arc.{arc_with}
use Rattle.ghs_gr.specs.Line.{IsNumberBefore, meaning, meaning_of, meanings, number_in}
use Rattle.ghs_gr.specs.declared.line.Line.TheVariants.{Arc}

pub plain : (text r1 r2 rest : List ℕ) (u v w : ℕ) → IsNumberBefore 32 text u r1 → IsNumberBefore 32 r1 v r2 → IsNumberBefore 10 r2 w rest
    → meanings (97 ∷ 32 ∷ text) ≡ Arc (Some (record { from = u; to = v; weight = w })) ∷ meanings rest
plain text r1 r2 rest u v w a b c =
    let tail : List ℕ = b.digits ++ 32 ∷ c.digits in
    let line : List ℕ = 97 ∷ 32 ∷ (a.digits ++ 32 ∷ tail) in
    let a_plain = digits_plain a.digits a.all in
    let b_plain = digits_plain b.digits b.all in
    let c_plain = digits_plain c.digits c.all in
    let back : tail ++ 10 ∷ rest ≡ r1 = append_assoc b.digits (32 ∷ c.digits) (10 ∷ rest) ∙ ap (λ bs. b.digits ++ 32 ∷ bs) (sym c.cut) ∙ sym b.cut in
    let whole : line ++ 10 ∷ rest ≡ 97 ∷ 32 ∷ text =
    ap (λ bs. 97 ∷ 32 ∷ bs) (append_assoc a.digits (32 ∷ tail) (10 ∷ rest) ∙ ap (λ bs. a.digits ++ 32 ∷ bs) back ∙ sym a.cut) in
    let none : has_no_feed line ≡ true =
    has_no_feed-word a.digits (32 ∷ tail) a_plain (has_no_feed-word b.digits (32 ∷ c.digits) b_plain (has_no_feed-last c.digits c_plain)) in
    let lines : lines_of (97 ∷ 32 ∷ text) ≡ line ∷ lines_of rest = ap lines_of (sym whole) ∙ lines_of-line line rest none in
    let fields : fields_of line ≡ (97 ∷ []) ∷ a.digits ∷ b.digits ∷ c.digits ∷ [] =
    fields_of-word (97 ∷ []) (a.digits ++ 32 ∷ tail) (omega arith) refl
    ∙ ap (λ fs. (97 ∷ []) ∷ fs) (fields_of-word a.digits tail a.some a_plain
    ∙ ap (λ fs. a.digits ∷ fs) (fields_of-word b.digits c.digits b.some b_plain
    ∙ ap (λ fs. b.digits ∷ fs) (fields_of-last c.digits c.some c_plain))) in
    ap (map meaning) lines
    ∙ ap (λ fs. meaning_of fs ∷ meanings rest) fields
    ∙ ap (λ n. Arc (arc_with n (number_in b.digits) (number_in c.digits)) ∷ meanings rest) a.number
    ∙ ap (λ n. Arc (arc_with (Some u) n (number_in c.digits)) ∷ meanings rest) b.number
    ∙ ap (λ n. Arc (arc_with (Some u) (Some v) n) ∷ meanings rest) c.number

-- the number that the first n bytes are, with a byte behind it
pub number_cut : (end : ℕ) (text rest : List ℕ) (value n : ℕ) → 1 ≤ n → n < length text → all_ascii_digits (take n text) ≡ true
    → value ≡ digits_value 10 (take n text) → value < 2 ^ 32 → slice_index text n ≡ end → rest ≡ drop (n + 1) text
    → IsNumberBefore end text value rest
number_cut end text rest value n some within digits is small here behind =
    let long : length (take n text) ≡ n = omega (arith, length-take n text) in
    record {
      digits = take n text;
      some = omega (arith, long);
      all = digits;
      number = sym (number_of-digits (2 ^ 32 - 1) (take n text) (omega (arith, long)) digits (omega (arith, is))) ∙ ap Some (sym is);
      cut = split_at text n 0 within ∙ ap₂ (λ b bs. take n text ++ b ∷ bs) here (ap (λ k. drop k text) (sym (add-one n)) ∙ sym behind);
    }
