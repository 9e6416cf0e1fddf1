-- Lines and fields, from the front of a text on.
use Rattle.std.proofs.Common.{◌≡◌, ◌≢◌, ◌<◌, ◌≤◌, ℕ, zero, suc, true, false, List, [], ◌∷◌, length, take, drop, slice_index, refl, sym, ap, ◌∙◌, arith}
use Rattle.std.proofs.lemmas.Bool.{cond-true, cond-false, eq-eqb, ne_eqb}
use Rattle.std.proofs.lemmas.List.Splits.{slice_split-cons_yes, slice_split-cons_no}
use Rattle.std.specs.List.{slice_split, onto_first}
use Rattle.std.specs.Prelude.{filter}
use Rattle.ghs_lines.specs.Fields.{fields_of, is_blank, is_nonempty}
use Rattle.ghs_lines.specs.Lines.{lines_of}

-- the first line feed ends the first line
pub lines_of-feed : (n : ℕ) (bs : List ℕ) →
    n < length bs →
    ((k : ℕ) → k < n → slice_index bs k ≢ 10) →
    slice_index bs n ≡ 10 →
    lines_of bs ≡ take n bs ∷ lines_of (drop (suc n) bs)
lines_of-feed n [] l before at = absurd (omega arith)
lines_of-feed zero (b ∷ bs) l before at = cond-true _ _ _ (eq-eqb b 10 at)
lines_of-feed (suc n) (b ∷ bs) l before at =
    let other : b ≢ 10 = before 0 (omega arith) in
    let inner = lines_of-feed n bs (omega arith) (λ k h. before (suc k) (omega arith)) at in
    cond-false _ _ _ (ne_eqb b 10 other) ∙ ap (onto_first b) inner

-- without a line feed there is one line
pub lines_of-last : (bs : List ℕ) → 0 < length bs → ((k : ℕ) → k < length bs → slice_index bs k ≢ 10) → lines_of bs ≡ bs ∷ []
lines_of-last [] pos none = absurd (omega arith)
lines_of-last (b ∷ []) pos none = cond-false _ _ _ (ne_eqb b 10 (none 0 (omega arith)))
lines_of-last (b ∷ c ∷ bs) pos none =
    cond-false _ _ _ (ne_eqb b 10 (none 0 (omega arith))) ∙
    ap (onto_first b) (lines_of-last (c ∷ bs) (omega arith) (λ k h. none (suc k) (omega arith)))

-- blanks in front don't count
pub fields_of-blanks : (n : ℕ) (bs : List ℕ) →
    n ≤ length bs →
    ((k : ℕ) → k < n → is_blank (slice_index bs k) ≡ true) →
    fields_of bs ≡ fields_of (drop n bs)
fields_of-blanks zero bs l before = refl
fields_of-blanks (suc n) [] l before = refl
fields_of-blanks (suc n) (b ∷ bs) l before =
    ap (filter is_nonempty) (slice_split-cons_yes is_blank b bs (before 0 (omega arith))) ∙
    fields_of-blanks n bs (omega arith) (λ k h. before (suc k) (omega arith))

-- a run of bytes up to a blank or the end is the first part of a line, and what is behind it begins with an empty one
run : (n : ℕ) (bs : List ℕ) →
    n ≤ length bs →
    ((k : ℕ) → k < n → is_blank (slice_index bs k) ≡ false) →
    (n < length bs → is_blank (slice_index bs n) ≡ true)
    → (parts : List (List ℕ)) × (slice_split is_blank bs ≡ take n bs ∷ parts) × (slice_split is_blank (drop n bs) ≡ [] ∷ parts)
run zero [] l before at = ([], refl, refl)
run zero (b ∷ bs) l before at = let e = slice_split-cons_yes is_blank b bs (at (omega arith)) in (slice_split is_blank bs, e, e)
run (suc n) [] l before at = absurd (omega arith)
run (suc n) (b ∷ bs) l before at =
    let inner = run n bs (omega arith) (λ k h. before (suc k) (omega arith)) (λ h. at (omega arith)) in
    (inner.0, slice_split-cons_no is_blank b bs (before 0 (omega arith)) ∙ ap (onto_first b) inner.1, inner.2)

-- and so it is the first field
pub fields_of-run : (n : ℕ) (bs : List ℕ) →
    0 < n →
    n ≤ length bs →
    ((k : ℕ) → k < n → is_blank (slice_index bs k) ≡ false) →
    (n < length bs → is_blank (slice_index bs n) ≡ true)
    → fields_of bs ≡ take n bs ∷ fields_of (drop n bs)
fields_of-run zero bs pos l before at = absurd (omega arith)
fields_of-run (suc n) [] pos l before at = absurd (omega arith)
fields_of-run (suc n) (b ∷ bs) pos l before at =
    let r = run (suc n) (b ∷ bs) l before at in
    ap (filter is_nonempty) r.1 ∙ ap (λ ps. (b ∷ take n bs) ∷ ps) (sym (ap (filter is_nonempty) r.2))
