use Rattle.std.proofs.Common.{◌≡◌, ◌<◌, ◌∙◌, ◌+◌, [], List, ℕ, length, drop, ap, refl, sym, arith, ◌∷◌, eqb-true, false, true, zero, suc, slice_index, add-zero, get_or-drop}
use Rattle.std.specs.Prelude.{◌==◌}
use Rattle.std.proofs.lemmas.Bool.{false≢true}
use Rattle.ghs_lines.specs.Fields.{fields_of, is_blank}
use Rattle.ghs_lines.proofs.lemmas.Cuts.{fields_of-blanks, fields_of-run}
use Rattle.ghs_lines.proofs.fields.next_field.Goals as goal

-- nothing has no field
empty : (xs : List ℕ) → length xs ≡ 0 → fields_of xs ≡ []
empty [] e = refl
empty (x ∷ xs) e = absurd (omega arith)

pub returns-then-is_empty-clause-none : goal.returns-then-is_empty-clause-none
returns-then-is_empty-clause-none c =
    fields_of-blanks c.field_start.result c.args.line.now c.field_start.ensures.within c.field_start.ensures.before
    ∙ ap fields_of (sym c.split_at.ensures.back) ∙ empty c.split_at.result.1.now (eqb-true _ 0 (sym c.is_empty.ensures ∙ c.if-is_empty.true))

-- what begins with no blank has its first blank further on
positive : (n : ℕ) (xs : List ℕ) →
    (length xs == 0) ≡ false →
    (n < length xs → is_blank (slice_index xs n) ≡ true) →
    ((n ≡ 0) → 0 < length xs → is_blank (slice_index xs 0) ≡ false) →
    0 < n
positive zero [] none found first = absurd (false≢true (sym none))
positive zero (x ∷ xs) none found first = absurd (false≢true (sym (first refl (omega arith)) ∙ found (omega arith)))
positive (suc n) xs none found first = omega arith

-- what is left behind the blanks begins with none
start_of : (i : ℕ) (line xs : List ℕ) →
    xs ≡ drop i line →
    length xs + i ≡ length line →
    (i < length line → is_blank (slice_index line i) ≡ false) →
    0 < length xs →
    is_blank (slice_index xs 0) ≡ false
start_of i line xs e len found pos =
    ap is_blank (ap (λ ys. slice_index ys 0) e ∙ get_or-drop i line 0 0 ∙ ap (slice_index line) (add-zero i)) ∙ found (omega arith)

pub returns-clause-some : goal.returns-clause-some
returns-clause-some c =
    fields_of-blanks c.field_start.result c.args.line.now c.field_start.ensures.within c.field_start.ensures.before
    ∙ ap fields_of (sym c.split_at.ensures.back)
    ∙ fields_of-run c.field_end.result c.split_at.result.1.now
    (positive c.field_end.result c.split_at.result.1.now (sym c.is_empty.ensures ∙ c.if-is_empty.false) c.field_end.ensures.found
    (λ z p.
    start_of c.field_start.result c.args.line.now c.split_at.result.1.now c.split_at.ensures.back c.split_at.ensures.back_len
    c.field_start.ensures.found p))
    c.field_end.ensures.within c.field_end.ensures.before c.field_end.ensures.found
    ∙ cc (c.split_at-2.ensures.front, c.split_at-2.ensures.back)
