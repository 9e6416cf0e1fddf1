-- A line, cut at its first ` = `.
use Rattle.std.proofs.Common.{◌≡◌, ◌+◌, ◌<◌, ◌≤◌, ◌∙◌, ℕ, zero, suc, true, List, [], ◌∷◌, length, take, drop, slice_index, refl, sym, ap, arith, Some, None, codes}
use Rattle.std.specs.Option.{option_map}
use Rattle.std.specs.Prelude.{◌==◌, ◌&&◌}
use Rattle.std.proofs.lemmas.Bool.{and_from, and_parts, cond-true, cond-false, eq-eqb, eqb-true}
use Rattle.bstr.specs.Find.{OccursAt}
use Rattle.own_book.specs.Line.{begins_with_sign, cut_at_sign}
use Rattle.own_book.proofs.Cuts.{not_true}

-- ` = ` stands in a text at this place
pub record At (bs : List ℕ) (k : ℕ) : Type 0 where
  pub fits : k + 3 ≤ length bs
  pub a : slice_index bs k ≡ 32
  pub b : slice_index bs (suc k) ≡ 61
  pub c : slice_index bs (suc (suc k)) ≡ 32

pub at_from : (bs : List ℕ) (k : ℕ) → OccursAt bs (codes " = ") k → At bs k
at_from bs k o =
    let x : k + 0 ≡ k = omega arith in
    let y : k + 1 ≡ suc k = omega arith in
    let z : k + 2 ≡ suc (suc k) = omega arith in
    record {
      fits = o.fits;
      a = ap (slice_index bs) (sym x) ∙ o.reads 0 (omega arith);
      b = ap (slice_index bs) (sym y) ∙ o.reads 1 (omega arith);
      c = ap (slice_index bs) (sym z) ∙ o.reads 2 (omega arith);
    }

reads_three : (bs : List ℕ) (k : ℕ) → At bs k → (j : ℕ) → j < 3 → slice_index bs (k + j) ≡ slice_index (codes " = ") j
reads_three bs k h zero l = let x : k + 0 ≡ k = omega arith in ap (slice_index bs) x ∙ h.a
reads_three bs k h (suc zero) l = let x : k + 1 ≡ suc k = omega arith in ap (slice_index bs) x ∙ h.b
reads_three bs k h (suc (suc zero)) l = let x : k + 2 ≡ suc (suc k) = omega arith in ap (slice_index bs) x ∙ h.c
reads_three bs k h (suc (suc (suc j))) l = absurd (omega arith)

pub occurs_from : (bs : List ℕ) (k : ℕ) → At bs k → OccursAt bs (codes " = ") k
occurs_from bs k h = record { fits = h.fits; reads = reads_three bs k h }

begins : (bs : List ℕ) → At bs 0 → begins_with_sign bs ≡ true
begins [] h = absurd (let f = h.fits in omega arith)
begins (x ∷ []) h = absurd (let f = h.fits in omega arith)
begins (x ∷ y ∷ []) h = absurd (let f = h.fits in omega arith)
begins (x ∷ y ∷ z ∷ bs) h = and_from _ _ (and_from _ _ (eq-eqb x 32 h.a) (eq-eqb y 61 h.b)) (eq-eqb z 32 h.c)

at_front : (bs : List ℕ) → begins_with_sign bs ≡ true → At bs 0
at_front [] e = cc
at_front (x ∷ []) e = cc
at_front (x ∷ y ∷ []) e = cc
at_front (x ∷ y ∷ z ∷ bs) e =
    let both = and_parts (x == 32 && y == 61) (z == 32) e in
    let first = and_parts (x == 32) (y == 61) both.0 in
    record { fits = omega arith; a = eqb-true x 32 first.0; b = eqb-true y 61 first.1; c = eqb-true z 32 both.1 }

later : (b : ℕ) (bs : List ℕ) (k : ℕ) → At (b ∷ bs) (suc k) → At bs k
later b bs k h = record { fits = let f = h.fits in omega arith; a = h.a; b = h.b; c = h.c }

sooner : (b : ℕ) (bs : List ℕ) (k : ℕ) → At bs k → At (b ∷ bs) (suc k)
sooner b bs k h = record { fits = let f = h.fits in omega arith; a = h.a; b = h.b; c = h.c }

pub cut_at_sign-first : (n : ℕ) (bs : List ℕ) → At bs n → ((k : ℕ) → k < n → At bs k → ⊥) → cut_at_sign bs ≡ Some (take n bs, drop (n + 3) bs)
cut_at_sign-first n [] h before = absurd (let f = h.fits in omega arith)
cut_at_sign-first zero (b ∷ bs) h before = cond-true (begins_with_sign (b ∷ bs)) _ _ (begins (b ∷ bs) h)
cut_at_sign-first (suc n) (b ∷ bs) h before =
    let behind : suc n + 3 ≡ suc (n + 3) = omega arith in
    cond-false (begins_with_sign (b ∷ bs)) _ _ (not_true _ (λ t. before 0 (omega arith) (at_front (b ∷ bs) t)))
    ∙ ap (option_map (λ cut. (b ∷ cut.0, cut.1))) (cut_at_sign-first n bs (later b bs n h) (λ k l i. before (suc k) (omega arith) (sooner b bs k i)))
    ∙ ap (λ m. Some (b ∷ take n bs, drop m (b ∷ bs))) (sym behind)

pub cut_at_sign-none : (bs : List ℕ) → ((k : ℕ) → At bs k → ⊥) → cut_at_sign bs ≡ None
cut_at_sign-none [] none = refl
cut_at_sign-none (b ∷ bs) none =
    cond-false (begins_with_sign (b ∷ bs)) _ _ (not_true _ (λ t. none 0 (at_front (b ∷ bs) t)))
    ∙ ap (option_map (λ cut. (b ∷ cut.0, cut.1))) (cut_at_sign-none bs (λ k i. none (suc k) (sooner b bs k i)))
