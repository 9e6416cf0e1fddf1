-- Written questions are questions.
use Rattle.std.proofs.Common.{◌≡◌, ◌<◌, ◌≤◌, ◌^◌, ◌∙◌, ◌==◌, ◌||◌, ℕ, zero, suc, Bool, true, false, not, codes, decimal, List, [], ◌∷◌, ◌++◌, append_assoc, refl, sym, ap, arith, get_or, None}
use Rattle.std.specs.List.{list_all, onto_first}
use Rattle.std.specs.Option.{is_some}
use Rattle.std.proofs.lemmas.Bool.{and_from, and_parts, cond-false, cond-true, ne_eqb, not-true}
use Rattle.std.proofs.lemmas.Fmt.{decimal_digit, first_decimal}
use Rattle.std.proofs.lemmas.List.Splits.{slice_split-cons_no, slice_split-cons_yes}
use Rattle.ghs_lines.proofs.lemmas.Words.{all_plain, decimal_plain, is_plain, number_of-decimal}
use Rattle.ghs_lines.specs.Numbers.{number_of}
use Rattle.own_book.specs.Asking.{AsksTake, AsksWake, take_text}
use Rattle.own_book.specs.Parts.{cut_at, parts_at}
use Rattle.own_book.specs.Question.{asked, take_asked, wake_asked}
use Rattle.own_book.specs.Words.{are_message_parts, has_leading_zero, has_no_blank, is_message, is_number, is_state, is_variable}

-- a field in front of a blank is the first part

front : (field rest : List ℕ) → has_no_blank field ≡ true → parts_at 32 (field ++ 32 ∷ rest) ≡ field ∷ parts_at 32 rest
front [] rest none = slice_split-cons_yes (λ x. x == 32) 32 rest refl
front (b ∷ field) rest none =
    let parts = and_parts (not (b == 32)) (has_no_blank field) none in
    slice_split-cons_no (λ x. x == 32) b (field ++ 32 ∷ rest) (not-true _ parts.0) ∙ ap (onto_first b) (front field rest parts.1)

last : (field : List ℕ) → has_no_blank field ≡ true → parts_at 32 field ≡ field ∷ []
last [] none = refl
last (b ∷ field) none =
    let parts = and_parts (not (b == 32)) (has_no_blank field) none in
    slice_split-cons_no (λ x. x == 32) b field (not-true _ parts.0) ∙ ap (onto_first b) (last field parts.1)

-- a number's text

plain_by : (b : ℕ) (t : Bool) → (b == 32) ≡ t → is_plain b ≡ true → not (b == 32) ≡ true
plain_by b true e h =
    let no : false ≡ true = sym (ap (λ t. not (((t || b == 9) || b == 13) || b == 10)) e) ∙ h in
    cc
plain_by b false e h = ap not e

plain_words : (ds : List ℕ) → all_plain ds ≡ true → has_no_blank ds ≡ true
plain_words [] h = refl
plain_words (d ∷ ds) h =
    let parts = and_parts (is_plain d) (all_plain ds) h in
    and_from _ _ (plain_by d (d == 32) refl parts.0) (plain_words ds parts.1)

zero_first : (ds : List ℕ) → 48 < get_or ds 0 0 → has_leading_zero ds ≡ false
zero_first [] h = refl
zero_first (d ∷ []) h = refl
zero_first (d ∷ e ∷ ds) h = ne_eqb d 48 (λ z. absurd (omega arith))

plain_start : (n : ℕ) → n < 2 ^ 64 → has_leading_zero (decimal n) ≡ false
plain_start zero h = ap has_leading_zero (decimal_digit 0 (omega arith))
plain_start (suc n) h = zero_first (decimal (suc n)) (first_decimal (suc n) (omega arith) h)

module _ (n : ℕ) (narrow : n ≤ 4294967295) where
  one_field : has_no_blank (decimal n) ≡ true
  one_field = plain_words (decimal n) (decimal_plain n (omega arith))

  number_is : is_number (decimal n) ≡ true
  number_is =
      ap is_some (cond-false (has_leading_zero (decimal n)) None (number_of 4294967295 (decimal n)) (plain_start n (omega arith))
      ∙ number_of-decimal n (omega arith) 4294967295 narrow)

pub asks_wake : (node : ℕ) (state : List ℕ) → AsksWake node state
asks_wake node state narrow is =
    let free = (and_parts (has_no_blank state) (list_all is_variable (parts_at 59 state)) is).0 in
    let fields : parts_at 32 (decimal node ++ 32 ∷ state) ≡ decimal node ∷ state ∷ [] =
    front (decimal node) state (one_field node narrow) ∙ ap (λ fs. decimal node ∷ fs) (last state free) in
    ap asked (append_assoc (codes "wake " ++ decimal node) (32 ∷ []) state ∙ append_assoc (codes "wake ") (decimal node) (32 ∷ state))
    ∙ ap wake_asked fields ∙ cond-true (is_number (decimal node)) _ _ (number_is node narrow) ∙ cond-true (is_state state) _ _ is

take_joined : (node port : ℕ) (message state : List ℕ) →
    take_text node port message state ≡ codes "take " ++ (decimal node ++ 32 ∷ (decimal port ++ 32 ∷ (message ++ 32 ∷ state)))
take_joined node port message state = simp append_assoc

pub behind : (text n p message state : List ℕ) →
    (((((((text ++ codes "take ") ++ n) ++ 32 ∷ []) ++ p) ++ 32 ∷ []) ++ message) ++ 32 ∷ []) ++ state ≡
    text ++ (codes "take " ++ n ++ 32 ∷ [] ++ p ++ 32 ∷ [] ++ message ++ 32 ∷ [] ++ state)
behind text n p message state = simp append_assoc

pub asks_take : (node port : ℕ) (message state : List ℕ) → AsksTake node port message state
asks_take node port message state narrow small carries is =
    let free = (and_parts (has_no_blank state) (list_all is_variable (parts_at 59 state)) is).0 in
    let whole = (and_parts (has_no_blank message) (are_message_parts (cut_at 40 message) message) carries).0 in
    let fields : parts_at 32 (decimal node ++ 32 ∷ (decimal port ++ 32 ∷ (message ++ 32 ∷ state))) ≡
    decimal node ∷ decimal port ∷ message ∷ state ∷ [] =
    front (decimal node) (decimal port ++ 32 ∷ (message ++ 32 ∷ state)) (one_field node narrow)
    ∙ ap (λ fs. decimal node ∷ fs) (front (decimal port) (message ++ 32 ∷ state) (one_field port small)
    ∙ ap (λ fs. decimal port ∷ fs) (front message state whole ∙ ap (λ fs. message ∷ fs) (last state free))) in
    ap asked (take_joined node port message state)
    ∙ ap take_asked fields ∙ cond-true (is_number (decimal node)) _ _ (number_is node narrow)
    ∙ cond-true (is_number (decimal port)) _ _ (number_is port small)
    ∙ cond-true (is_message message) _ _ carries ∙ cond-true (is_state state) _ _ is
