-- A text, cut at the first byte of a value.
use Rattle.std.proofs.Common.{◌≡◌, ◌≢◌, ◌<◌, ℕ, Bool, zero, suc, true, false, List, [], ◌∷◌, length, take, drop, slice_index, refl, ap, ◌∙◌, arith, Some, None}
use Rattle.std.proofs.lemmas.Bool.{cond-true, cond-false}
use Rattle.std.proofs.lemmas.List.Splits.{length-slice_split, slice_split-cons_yes, slice_split-cons_no}
use Rattle.std.specs.List.{onto_first}
use Rattle.std.specs.Option.{option_map}
use Rattle.std.specs.Prelude.{◌==◌}
use Rattle.own_book.specs.Parts.{cut_at, parts_at}

pub not_true : (b : Bool) → (b ≡ true → ⊥) → b ≡ false
not_true true h = absurd (h refl)
not_true false h = refl

module _ (byte : ℕ) where
  pub cut_at-first : (n : ℕ) (bs : List ℕ) → n < length bs → ((k : ℕ) → k < n → (slice_index bs k == byte) ≡ false) →
      (slice_index bs n == byte) ≡ true → cut_at byte bs ≡ Some (take n bs, drop (suc n) bs)
  cut_at-first n [] l before at = absurd (omega arith)
  cut_at-first zero (b ∷ bs) l before at = cond-true (b == byte) _ _ at
  cut_at-first (suc n) (b ∷ bs) l before at =
      cond-false (b == byte) _ _ (before 0 (omega arith))
      ∙ ap (option_map (λ cut. (b ∷ cut.0, cut.1))) (cut_at-first n bs (omega arith) (λ k h. before (suc k) (omega arith)) at)

  pub cut_at-none : (bs : List ℕ) → ((k : ℕ) → k < length bs → (slice_index bs k == byte) ≡ false) → cut_at byte bs ≡ None
  cut_at-none [] none = refl
  cut_at-none (b ∷ bs) none =
      cond-false (b == byte) _ _ (none 0 (omega arith))
      ∙ ap (option_map (λ cut. (b ∷ cut.0, cut.1))) (cut_at-none bs (λ k h. none (suc k) (omega arith)))

  pub parts_at-first : (n : ℕ) (bs : List ℕ) → n < length bs → ((k : ℕ) → k < n → (slice_index bs k == byte) ≡ false) →
      (slice_index bs n == byte) ≡ true → parts_at byte bs ≡ take n bs ∷ parts_at byte (drop (suc n) bs)
  parts_at-first n [] l before at = absurd (omega arith)
  parts_at-first zero (b ∷ bs) l before at = slice_split-cons_yes (λ x. x == byte) b bs at
  parts_at-first (suc n) (b ∷ bs) l before at =
      slice_split-cons_no (λ x. x == byte) b bs (before 0 (omega arith))
      ∙ ap (onto_first b) (parts_at-first n bs (omega arith) (λ k h. before (suc k) (omega arith)) at)

  pub parts_at-none : (bs : List ℕ) → ((k : ℕ) → k < length bs → (slice_index bs k == byte) ≡ false) → parts_at byte bs ≡ bs ∷ []
  parts_at-none [] none = refl
  parts_at-none (b ∷ bs) none =
      slice_split-cons_no (λ x. x == byte) b bs (none 0 (omega arith))
      ∙ ap (onto_first b) (parts_at-none bs (λ k h. none (suc k) (omega arith)))

-- three parts at least
pub not_two : (all rest last first second : List ℕ) → parts_at 32 all ≡ first ∷ parts_at 32 rest → parts_at 32 rest ≡ second ∷ parts_at 32 last →
    length (parts_at 32 all) ≢ 2
not_two all rest last first second e f two =
    let whole : parts_at 32 all ≡ first ∷ second ∷ parts_at 32 last = e ∙ ap (λ ps. first ∷ ps) f in
    let more = length-slice_split (λ b. b == 32) last in
    let long : length (parts_at 32 all) ≡ suc (suc (length (parts_at 32 last))) = ap length whole in
    absurd (omega arith)
