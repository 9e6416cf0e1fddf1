-- The values of a message, cut at commas outside brackets, and their bits.
use Rattle.std.proofs.Common.{◌≡◌, ℕ, suc, Bool, cond, ◌+◌, ◌*◌, ◌-◌, ◌^◌, ◌<◌, ◌≤◌, true, false, List, [], ◌∷◌, ◌++◌, take, drop, length, min, ap, sym, ◌∙◌, refl, arith, ⊎_elim}
use Rattle.std.specs.Prelude.{◌==◌, ◌&&◌, ◌⊎◌}
use Rattle.std.specs.List.{onto_first, slice_index_or}
use Rattle.std.proofs.Math.Pow.{pow_mono}
use Rattle.std.proofs.Math.Seq.{drop-length}
use Rattle.std.proofs.lemmas.Bool.{cases_lt, cond-true, cond-false}
use Rattle.std.proofs.lemmas.Grind.{pow_more}
use Rattle.std.proofs.lemmas.List.{append-nil, drop_more, take_more, take-append-drop}
use Rattle.ghs_bits.specs.Laws.{IsWidth}
use Rattle.ghs_bits.specs.Length.{width_of}
use Rattle.ghs_bits.specs.declared.widths.Widths.{Widths}
use Rattle.own_book.specs.Answer.{types_in}
use Rattle.own_book.specs.Parts.{cut_at}
use Rattle.own_book.specs.Sends.{kind_in}
use Rattle.own_book.specs.declared.kind.ArgumentType.{ArgumentType}
use Rattle.own_rules.specs.Bits.{argument_bits, arguments_bits, closes_bracket, deeper, message_bits, opens_bracket, values_from, values_in}
use Rattle.own_rules.specs.Texts.{Text, kinds_many, types_of}

-- bytes in front of the first of some values
abbrev pub in_front : Text → List Text → List Text
in_front [] vs = vs
in_front (b ∷ bs) vs = onto_first b (in_front bs vs)

front_of_one : (xs v : Text) (vs : List Text) → in_front xs (v ∷ vs) ≡ (xs ++ v) ∷ vs
front_of_one [] v vs = refl
front_of_one (b ∷ bs) v vs = ap (onto_first b) (front_of_one bs v vs)

front_more : (xs : Text) (b : ℕ) (vs : List Text) → in_front (xs ++ b ∷ []) vs ≡ in_front xs (onto_first b vs)
front_more [] b vs = refl
front_more (x ∷ xs) b vs = ap (onto_first x) (front_more xs b vs)

-- a byte that parts no values, and one that does
value_goes_on : (depth b : ℕ) (bs : Text) → (b == 44 && depth == 0) ≡ false →
    values_from depth (b ∷ bs) ≡ onto_first b (values_from (deeper depth b) bs)
value_goes_on depth b bs is = cond-false (b == 44 && depth == 0) _ _ is

value_ends : (depth b : ℕ) (bs : Text) → (b == 44 && depth == 0) ≡ true → values_from depth (b ∷ bs) ≡ [] ∷ values_from 0 bs
value_ends depth b bs is = cond-true (b == 44 && depth == 0) _ _ is

module _ (text : Text) (i depth : ℕ) (within : i < length text)
    (so_far : in_front (take i text) (values_from depth (drop i text)) ≡ values_from 0 text) where
  pub value_more : (slice_index_or text i 0 == 44 && depth == 0) ≡ false →
      in_front (take (i + 1) text) (values_from (deeper depth (slice_index_or text i 0)) (drop (i + 1) text)) ≡ values_from 0 text
  value_more is =
      let b = slice_index_or text i 0 in
      let vs = values_from (deeper depth b) (drop (i + 1) text) in
      ap (λ xs. in_front xs vs) (take_more text i 0 within)
      ∙ front_more (take i text) b vs
      ∙ ap (in_front (take i text)) (sym (ap (values_from depth) (drop_more text i 0 within) ∙ value_goes_on depth b (drop (i + 1) text) is))
      ∙ so_far

  pub value_found : (slice_index_or text i 0 == 44 && depth == 0) ≡ true →
      values_from 0 text ≡ take i text ∷ values_from 0 (drop (i + 1) text)
  value_found is =
      let b = slice_index_or text i 0 in
      let vs = values_from 0 (drop (i + 1) text) in
      sym so_far
      ∙ ap (in_front (take i text)) (ap (values_from depth) (drop_more text i 0 within) ∙ value_ends depth b (drop (i + 1) text) is)
      ∙ front_of_one (take i text) [] vs ∙ ap (λ v. v ∷ vs) (append-nil (take i text))

-- a byte opens one bracket at most
by_brackets : (opens closes : Bool) (depth : ℕ) → cond opens (suc depth) (cond closes (depth - 1) depth) ≤ depth + 1
by_brackets true closes depth = omega arith
by_brackets false true depth = omega arith
by_brackets false false depth = omega arith

pub one_deeper : (depth b : ℕ) → deeper depth b ≤ depth + 1
one_deeper depth b = by_brackets (opens_bracket b) (closes_bracket b) depth

-- no byte has parted two
pub one_value : (text : Text) (i depth : ℕ) → i ≡ length text →
    in_front (take i text) (values_from depth (drop i text)) ≡ values_from 0 text → values_from 0 text ≡ text ∷ []
one_value text i depth all so_far =
    let rest : drop i text ≡ [] = ap (λ n. drop n text) all ∙ drop-length text in
    let whole : take i text ≡ text = sym (append-nil (take i text)) ∙ ap (λ r. take i text ++ r) (sym rest) ∙ take-append-drop i text in
    sym so_far ∙ ap (λ r. in_front (take i text) (values_from depth r)) rest
    ∙ front_of_one (take i text) [] [] ∙ ap (λ v. v ∷ []) (append-nil (take i text) ∙ whole)

module _ (w : Widths) (count : ℕ) where
  -- a value without bytes stands for none
  no_values : (ts : List ArgumentType) → arguments_bits w count ts [] ≡ arguments_bits w count ts ([] ∷ [])
  no_values [] = refl
  no_values (t ∷ ts) = refl

  left_values : (ts : List ArgumentType) (vs : List Text) (rest : Text) → (vs ≡ values_from 0 rest) ⊎ ((vs ≡ []) × (rest ≡ [])) →
      arguments_bits w count ts vs ≡ arguments_bits w count ts (values_from 0 rest)
  left_values ts vs rest is = ⊎_elim
      (λ (all : vs ≡ values_from 0 rest). ap (arguments_bits w count ts) all)
      (λ (none : (vs ≡ []) × (rest ≡ [])). ap (arguments_bits w count ts) none.0 ∙ no_values ts
      ∙ ap (λ r. arguments_bits w count ts (values_from 0 r)) (sym none.1))
      is

  pub first_argument : (t : ArgumentType) (ts : List ArgumentType) (value rest : Text) (vs : List Text) →
      (vs ≡ value ∷ values_from 0 rest) ⊎ ((vs ≡ value ∷ []) × (rest ≡ [])) →
      arguments_bits w count (t ∷ ts) vs ≡ argument_bits w count t value + arguments_bits w count ts (values_from 0 rest)
  first_argument t ts value rest vs is = ⊎_elim
      (λ (more : vs ≡ value ∷ values_from 0 rest). ap (arguments_bits w count (t ∷ ts)) more)
      (λ (last : (vs ≡ value ∷ []) × (rest ≡ [])). ap (arguments_bits w count (t ∷ ts)) last.0
      ∙ ap (λ n. argument_bits w count t value + n) (no_values ts ∙ ap (λ r. arguments_bits w count ts (values_from 0 r)) (sym last.1)))
      is

  pub message_is : (kinds message greeted name types values : Text) (many wide bits all : ℕ) → greeted ≡ kinds →
      name ≡ kind_in message (cut_at 40 message) → types ≡ types_of greeted name →
      (values_in (cut_at 40 message) ≡ values_from 0 values) ⊎ ((values_in (cut_at 40 message) ≡ []) × (values ≡ [])) →
      bits ≡ min 4294967295 (arguments_bits w count (types_in types) (values_from 0 values)) → many ≡ kinds_many kinds →
      wide ≡ width_of (many - 1) → all ≡ min (wide + bits) 4294967295 → all ≡ message_bits w count kinds message
  message_is kinds message greeted name types values many wide bits all is named typed valued measured counted width sum =
      let kind = kind_in message (cut_at 40 message) in
      let ts = types_in (types_of kinds kind) in
      let vs = values_in (cut_at 40 message) in
      let same : types_in types ≡ ts =
      ap types_in (typed ∙ ap (types_of greeted) named ∙ ap (λ g. types_of g kind) is) in
      let left : arguments_bits w count (types_in types) (values_from 0 values) ≡ arguments_bits w count ts vs =
      sym (left_values (types_in types) vs values valued) ∙ ap (λ t. arguments_bits w count t vs) same in
      let front : wide ≡ width_of (kinds_many kinds - 1) = width ∙ ap (λ n. width_of (n - 1)) counted in
      let both : all ≡ min 4294967295 (width_of (kinds_many kinds - 1) + arguments_bits w count ts vs) =
      omega (arith, sum, measured, left, front) in
      both

-- the cap of a sum is that of the caps' sum
pub cap_more : (t a b capped sum : ℕ) → capped ≡ min 4294967295 a → sum ≡ min (t + capped) 4294967295 →
    min 4294967295 (sum + b) ≡ min 4294967295 (t + (a + b))
cap_more t a b capped sum x y = omega (arith, x, y)

-- the floor of log2 is one less than the width
pub log2_width : (n k w : ℕ) → 2 ^ k ≤ n → n < 2 * 2 ^ k → IsWidth n w → k + 1 ≡ w
log2_width n k w at_most below is =
    let least = is.least (k + 1) (omega arith) (let e = pow_more 2 k in omega (arith, e, below)) in
    ⊎_elim
    (λ (more : k < w). omega (arith, least, more))
    (λ (less : w ≤ k). absurd (let fits = is.fits in omega (arith, pow_mono {i = w} {j = k} less, fits, at_most)))
    (cases_lt k w)
