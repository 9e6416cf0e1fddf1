-- A line that says an answer: what it is made of.
use Rattle.std.proofs.Common.{◌≡◌, ◌∙◌, ℕ, Bool, true, false, codes, cond, List, [], ◌∷◌, ◌++◌, drop, length, refl, sym, ap, ap₂, Option, Some, None, Result, Ok, Err}
use Rattle.std.specs.List.{list_all}
use Rattle.std.specs.Option.{is_some, option_map}
use Rattle.std.specs.Prelude.{nat_le, ◌==◌, ◌&&◌}
use Rattle.std.proofs.lemmas.Bool.{and_parts, cond-true, cond-false, eqb-true}
use Rattle.own_book.specs.Answer.{saying}
use Rattle.own_book.specs.Line.{bad, begins_with_sign, cut_at_sign, line_parts, meaning, paired, says}
use Rattle.own_book.specs.Question.{asked}
use Rattle.own_book.specs.Text.{line_text}
use Rattle.own_book.specs.Words.{is_printable}
use Rattle.own_book.specs.declared.fault.LineFault.{LineFault}
use Rattle.own_book.specs.declared.fault.LineFault.TheVariants.{BadLine, TooLong}
use Rattle.own_book.specs.declared.question.Asked.{Asked}

sign_front : (bs : List ℕ) → begins_with_sign bs ≡ true → bs ≡ codes " = " ++ drop 3 bs
sign_front [] e = cc
sign_front (x ∷ []) e = cc
sign_front (x ∷ y ∷ []) e = cc
sign_front (x ∷ y ∷ z ∷ bs) e =
    let both = and_parts (x == 32 && y == 61) (z == 32) e in
    let first = and_parts (x == 32) (y == 61) both.0 in
    let a : x ≡ 32 = eqb-true x 32 first.0 in
    let b : y ≡ 61 = eqb-true y 61 first.1 in
    let c : z ≡ 32 = eqb-true z 32 both.1 in
    cc

joined_rest : (b : ℕ) (bs x y : List ℕ) (o : Option (List ℕ × List ℕ)) →
    option_map {U = List ℕ × List ℕ} (λ cut. (b ∷ cut.0, cut.1)) o ≡ Some (x, y) →
    ((u v : List ℕ) → o ≡ Some (u, v) → bs ≡ line_text u v) → b ∷ bs ≡ line_text x y
joined_rest b bs x y None e inner = cc
joined_rest b bs x y (Some (u, v)) e inner =
    let pair : (let p : List ℕ × List ℕ = (b ∷ u, v) in p) ≡ (x, y) = cc in
    ap (λ xs. b ∷ xs) (inner u v refl) ∙ ap₂ line_text (ap (λ p. p.0) pair) (ap (λ p. p.1) pair)

joined_by : (b : ℕ) (bs x y : List ℕ) (d : Bool) → begins_with_sign (b ∷ bs) ≡ d → cut_at_sign (b ∷ bs) ≡ Some (x, y) →
    ((u v : List ℕ) → cut_at_sign bs ≡ Some (u, v) → bs ≡ line_text u v) → b ∷ bs ≡ line_text x y
joined_by b bs x y true t e inner =
    let cut : Some (let p : List ℕ × List ℕ = ([], drop 3 (b ∷ bs)) in p) ≡ Some (x, y) = sym (cond-true (begins_with_sign (b ∷ bs)) _ _ t) ∙ e in
    let pair : (let p : List ℕ × List ℕ = ([], drop 3 (b ∷ bs)) in p) ≡ (x, y) = cc in
    sign_front (b ∷ bs) t ∙ ap₂ line_text (ap (λ p. p.0) pair) (ap (λ p. p.1) pair)
joined_by b bs x y false t e inner =
    joined_rest b bs x y (cut_at_sign bs) (sym (cond-false (begins_with_sign (b ∷ bs)) _ _ t) ∙ e) inner

joined : (bs x y : List ℕ) → cut_at_sign bs ≡ Some (x, y) → bs ≡ line_text x y
joined [] x y e = cc
joined (b ∷ bs) x y e = joined_by b bs x y (begins_with_sign (b ∷ bs)) refl e (λ u v. joined bs u v)

-- what is read as a question and an answer stands on both sides of the first ` = `

module _ (q a : List ℕ) where
  pair_is : (x y : List ℕ) (b : Bool) → cond b (says x y) (bad BadLine) ≡ says q a → (x ≡ q) × (y ≡ a)
  pair_is x y true e = (cc, cc)
  pair_is x y false e = cc

  paired_is : (x y : List ℕ) (r : Result Asked LineFault) → paired x y r ≡ says q a → (x ≡ q) × (y ≡ a)
  paired_is x y (Err f) e = cc
  paired_is x y (Ok asked) e = pair_is x y (is_some (saying asked y)) e

  parts_are : (bs : List ℕ) (o : Option (List ℕ × List ℕ)) → cut_at_sign bs ≡ o → line_parts o ≡ says q a → bs ≡ line_text q a
  parts_are bs None c e = cc
  parts_are bs (Some (x, y)) c e = let same = paired_is x y (asked x) e in joined bs x y c ∙ ap₂ line_text same.0 same.1

  line_by : (bs : List ℕ) (b c : Bool) → cond b (cond c (line_parts (cut_at_sign bs)) (bad BadLine)) (bad TooLong) ≡ says q a →
      (c ≡ true) × (bs ≡ line_text q a)
  line_by bs true true e = (refl, parts_are bs (cut_at_sign bs) refl e)
  line_by bs true false e = cc
  line_by bs false c e = cc

  line_parts_are : (bs : List ℕ) → meaning bs ≡ says q a → (list_all is_printable bs ≡ true) × (bs ≡ line_text q a)
  line_parts_are bs e = line_by bs (nat_le (length bs) 1048576) (list_all is_printable bs) e

pub made_of : (bs q a : List ℕ) → meaning bs ≡ says q a → bs ≡ line_text q a
made_of bs q a e = (line_parts_are q a bs e).1

pub printable : (bs q a : List ℕ) → meaning bs ≡ says q a → list_all is_printable bs ≡ true
printable bs q a e = (line_parts_are q a bs e).0

-- the text of what was read says it again
pub says_again : (bs q a : List ℕ) → meaning bs ≡ says q a → meaning (line_text q a) ≡ says q a
says_again bs q a e = ap meaning (sym (made_of bs q a e)) ∙ e
