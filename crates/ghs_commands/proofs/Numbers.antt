-- The numbers of a command line.
use Rattle.std.proofs.Common.{◌≡◌, ℕ, ◌<◌, ◌≤◌, ◌^◌, ◌&&◌, Bool, true, false, cond, List, [], ◌∷◌, Some, None, ap, ◌∙◌, arith, refl, subst, sym}
use Rattle.std.specs.Prelude.{nat_le, slice_index, length}
use Rattle.std.specs.Int.{IsInRange}
use Rattle.std.specs.Str.{all_ascii_digits}
use Rattle.std.specs.Str.Parse.{IsNumeral, digits_value, without_leading_plus}
use Rattle.std.proofs.lemmas.Bool.{leb-true, le-leb}
use Rattle.std.proofs.lemmas.Str.Parse.{numerals_by_value, tells_all_ascii_digits, without_leading_plus_none}
use Rattle.ghs_lines.specs.Fields.{is_nonempty}
use Rattle.ghs_commands.specs.Values.{number_in}

none_where : (b : Bool) (v : ℕ) → (b ≡ true → ⊥) → None ≡ cond b (Some v) None
none_where true v f = absurd (f refl)
none_where false v f = refl

some_where : (b : Bool) (v n : ℕ) → b ≡ true → n ≡ v → Some n ≡ cond b (Some v) None
some_where true v n e is = ap Some is
some_where false v n e is = cc

record AllFour (a b c d : Bool) : Type 0 where
  first : a ≡ true
  second : b ≡ true
  third : c ≡ true
  fourth : d ≡ true

all_four : (a b c d : Bool) → (a && b && c && d) ≡ true → AllFour a b c d
all_four true true true true e = record { first = refl; second = refl; third = refl; fourth = refl }
all_four true true true false e = cc
all_four true true false d e = cc
all_four true false c d e = cc
all_four false b c d e = cc

four_are : (a b c d : Bool) → a ≡ true → b ≡ true → c ≡ true → d ≡ true → (a && b && c && d) ≡ true
four_are true true true true e f g h = refl
four_are true true true false e f g h = h
four_are true true false d e f g h = g
four_are true false c d e f g h = f
four_are false b c d e f g h = e

nonempty : (text : List ℕ) → 0 < length text → is_nonempty text ≡ true
nonempty [] some = absurd (omega arith)
nonempty (x ∷ xs) some = refl

-- what is known of a value that is a number
record IsDigits (low high : ℕ) (text : List ℕ) : Type 0 where
  first : IsInRange 48 57 (slice_index text 0)
  plain : without_leading_plus text ≡ text
  numeral : IsNumeral 10 text
  least : low ≤ digits_value 10 text
  most : digits_value 10 text ≤ high

not_plus : (x : ℕ) → IsInRange 48 57 x → x ≡ 43 → ⊥
not_plus x within is = omega (arith, within.0, is)

digits_of : (low high : ℕ) (text : List ℕ) →
    AllFour (is_nonempty text) (all_ascii_digits text) (nat_le low (digits_value 10 text)) (nat_le (digits_value 10 text) high) →
    IsDigits low high text
digits_of low high [] all = absurd (let bad : false ≡ true = all.first in cc)
digits_of low high (x ∷ xs) all =
    let first : IsInRange 48 57 x = (tells_all_ascii_digits.parts x xs all.second).0 in
    record {
      first = first;
      plain = without_leading_plus_none (x ∷ xs) (not_plus x first);
      numeral = (omega arith, (numerals_by_value _ tells_all_ascii_digits).to (x ∷ xs) all.second);
      least = leb-true low (digits_value 10 (x ∷ xs)) all.third;
      most = leb-true (digits_value 10 (x ∷ xs)) high all.fourth;
    }

-- what can't be known of a number refuses it
no_number : (low high : ℕ) (text : List ℕ) → (IsDigits low high text → ⊥) → None ≡ number_in low high text
no_number low high text refuted = none_where _ (digits_value 10 text) (λ e. refuted (digits_of low high text (all_four _ _ _ _ e)))

-- what `parse` refuses is no number
pub number_refused : (low high : ℕ) (text : List ℕ) →
    high < 2 ^ 64 →
    ((IsNumeral 10 (without_leading_plus text) × (digits_value 10 (without_leading_plus text) < 2 ^ 64)) → ⊥) →
    None ≡ number_in low high text
number_refused low high text fits refused = no_number low high text (λ d. refused (
  subst (λ t. IsNumeral 10 t) (sym d.plain) d.numeral,
  subst (λ t. digits_value 10 t < 2 ^ 64) (sym d.plain) (omega (arith, d.most, fits)),
))

-- what `parse` takes, where it doesn't begin with a plus, is a number of its range
pub number_taken : (low high : ℕ) (text : List ℕ) (n : ℕ) →
    IsNumeral 10 (without_leading_plus text) →
    n ≡ digits_value 10 (without_leading_plus text) →
    (slice_index text 0 ≡ 43 → ⊥) →
    low ≤ n →
    n ≤ high →
    Some n ≡ number_in low high text
number_taken low high text n numeral is no_plus least most =
    let plain : without_leading_plus text ≡ text = without_leading_plus_none text no_plus in
    let own : IsNumeral 10 text = subst (λ t. IsNumeral 10 t) plain numeral in
    let value : n ≡ digits_value 10 text = is ∙ ap (digits_value 10) plain in
    some_where _ (digits_value 10 text) n
    (four_are _ _ _ _ (nonempty text own.0) ((numerals_by_value _ tells_all_ascii_digits).from text own.1)
    (le-leb low (digits_value 10 text) (omega (arith, value, least))) (le-leb (digits_value 10 text) high (omega (arith, value, most)))) value
