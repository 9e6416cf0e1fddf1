-- When a field is a number.
use Rattle.std.proofs.Common.{◌≡◌, ◌+◌, ◌-◌, ◌*◌, ◌<◌, ◌≤◌, ℕ, zero, suc, true, false, List, [], ◌∷◌, length, take, slice_index, refl, sym, arith, Some, None}
use Rattle.std.proofs.lemmas.Bool.{cond-true, cond-false, and_left, and_right, and_from, and_parts, leb-true, lt-leb, le-leb}
use Rattle.std.specs.Prelude.{◌&&◌, nat_le}
use Rattle.std.specs.Char.{is_ascii_digit, digit_value}
use Rattle.std.specs.Int.{IsInRange}
use Rattle.std.specs.Str.{all_ascii_digits}
use Rattle.std.specs.Str.Parse.{digits_value}
use Rattle.std.proofs.lemmas.Int.Digits.{digits_value_more}
use Rattle.std.proofs.lemmas.Str.Parse.{digits_value-take-le}
use Rattle.std.proofs.lemmas.Str.{digit_value_digit}
use Rattle.ghs_lines.specs.Fields.{is_nonempty}
use Rattle.ghs_lines.specs.Numbers.{number_of}

all_ascii_digits-other : (f : List ℕ) (i : ℕ) → i < length f → is_ascii_digit (slice_index f i) ≡ false → all_ascii_digits f ≡ false
all_ascii_digits-other [] i l other = absurd (omega arith)
all_ascii_digits-other (x ∷ f) zero l other = and_left _ _ other
all_ascii_digits-other (x ∷ f) (suc i) l other = and_right _ _ (all_ascii_digits-other f i (omega arith) other)

-- one more digit
pub all_ascii_digits-take : (f : List ℕ) (i : ℕ) →
    i < length f →
    all_ascii_digits (take i f) ≡ true →
    is_ascii_digit (slice_index f i) ≡ true →
    all_ascii_digits (take (suc i) f) ≡ true
all_ascii_digits-take [] i l so digit = absurd (omega arith)
all_ascii_digits-take (x ∷ f) zero l so digit = and_from _ _ digit refl
all_ascii_digits-take (x ∷ f) (suc i) l so digit =
    let parts = and_parts (is_ascii_digit x) (all_ascii_digits (take i f)) so in
    and_from _ _ parts.0 (all_ascii_digits-take f i (omega arith) parts.1 digit)

-- a byte that is no digit
pub number_of-other : (most : ℕ) (f : List ℕ) (i : ℕ) → i < length f → is_ascii_digit (slice_index f i) ≡ false → None ≡ number_of most f
number_of-other most f i l other =
    sym (cond-false (is_nonempty f && all_ascii_digits f && nat_le (digits_value 10 f) most) (Some (digits_value 10 f)) None
    (and_left _ _ (and_right _ _ (all_ascii_digits-other f i l other))))

-- the first digits alone are past the limit
pub number_of-large : (most v : ℕ) (f : List ℕ) (i : ℕ) → v ≡ digits_value 10 (take i f) → most < v → None ≡ number_of most f
number_of-large most v f i e l =
    let more : digits_value 10 (take i f) ≤ digits_value 10 f = digits_value-take-le 10 f i (omega arith) in
    let above : most < digits_value 10 f = omega (arith, e, more, l) in
    sym (cond-false (is_nonempty f && all_ascii_digits f && nat_le (digits_value 10 f) most) (Some (digits_value 10 f)) None
    (and_right _ _ (lt-leb (digits_value 10 f) most above)))

pub number_of-digits : (most : ℕ) (f : List ℕ) →
    0 < length f →
    all_ascii_digits f ≡ true →
    digits_value 10 f ≤ most →
    Some (digits_value 10 f) ≡ number_of most f
number_of-digits most [] pos digits l = absurd (omega arith)
number_of-digits most (x ∷ f) pos digits l =
    sym (cond-true (all_ascii_digits (x ∷ f) && nat_le (digits_value 10 (x ∷ f)) most) _ _ (and_from _ _ digits (le-leb _ _ l)))

in_range : (c : ℕ) → is_ascii_digit c ≡ true → IsInRange 48 57 c
in_range c digit = let parts = and_parts (nat_le 48 c) (nat_le c 57) digit in (leb-true 48 c parts.0, leb-true c 57 parts.1)

-- what one more digit makes of the value
pub digits_value-more : (f : List ℕ) (i v : ℕ) →
    i < length f →
    v ≡ digits_value 10 (take i f) →
    is_ascii_digit (slice_index f i) ≡ true →
    v * 10 + (slice_index f i - 48) ≡ digits_value 10 (take (i + 1) f)
digits_value-more f i v l e digit =
    let d : digit_value (slice_index f i) + 48 ≡ slice_index f i = digit_value_digit (slice_index f i) (in_range _ digit) in
    let more : digits_value 10 (take (i + 1) f) ≡ digits_value 10 (take i f) * 10 + digit_value (slice_index f i) = digits_value_more 10 f i l in
    omega (arith, d, more, e)
