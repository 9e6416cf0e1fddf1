-- Digits, eight bytes at a time.
use Rattle.std.proofs.Common.{◌≡◌, ◌∙◌, ◌+◌, ◌-◌, ◌*◌, ◌/◌, ◌%◌, ◌<◌, ◌≤◌, ◌^◌, ℕ, zero, suc, true, List, [], ◌∷◌, ◌++◌, length, take, drop, replicate, arith, refl, sym, subst, subst₂, ap}
use Rattle.std.proofs.Math.Nat.{mul_right_comm, pow-suc}
use Rattle.std.proofs.lemmas.Bool.{and_parts, leb-true}
use Rattle.std.proofs.lemmas.List.{length-append, length-take, take-append-drop}
use Rattle.std.proofs.lemmas.Simd.{length-replicate}
use Rattle.std.proofs.lemmas.Str.{digit_value_digit}
use Rattle.std.specs.Char.{is_ascii_digit, digit_value}
use Rattle.std.specs.Int.{from_le_bytes, w64}
use Rattle.std.specs.Prelude.{nat_le}
use Rattle.std.specs.Str.{all_ascii_digits}
use Rattle.std.specs.Str.Parse.{digits_value}
use lib.Lanes.{number_l}

-- a digit
record IsDigit (c : ℕ) : Type 0 where
  digit : ℕ
  small : digit ≤ 9
  code : c ≡ 48 + digit
  value : digit_value c ≡ digit

first_digit : (c : ℕ) (cs : List ℕ) → all_ascii_digits (c ∷ cs) ≡ true → IsDigit c × (all_ascii_digits cs ≡ true)
first_digit c cs all =
    let parts = and_parts (is_ascii_digit c) (all_ascii_digits cs) all in
    let range = and_parts (nat_le 48 c) (nat_le c 57) parts.0 in
    let least : 48 ≤ c = leb-true 48 c range.0 in
    let most : c ≤ 57 = leb-true c 57 range.1 in
    (record { digit = c - 48; small = omega arith; code = omega arith; value = omega (arith, digit_value_digit c (least, most)) }, parts.1)

-- a word of digits, the first in its lowest byte: its pairs, and their number
abbrev pairs : ℕ → ℕ
pairs word = word * 10 + word / 256

abbrev joined : ℕ → ℕ
joined p = (p % 256 * 100 + p / 0x1_0000 % 256) * 10_000 + (p / 0x1_0000_0000 % 256 * 100 + p / 0x1_0000_0000_0000 % 256)

abbrev pub Gives : ℕ → ℕ → Type 0
Gives word value = (pairs word < 2 ^ 64) × (joined (pairs word) ≡ value) × (value < 10 ^ 8)

gives : (a b c d e f g h word value : ℕ) → a ≤ 9 → b ≤ 9 → c ≤ 9 → d ≤ 9 → e ≤ 9 → f ≤ 9 → g ≤ 9 → h ≤ 9
    → word ≡ number_l 256 (a ∷ b ∷ c ∷ d ∷ e ∷ f ∷ g ∷ h ∷ [])
    → value ≡ 10_000_000 * a + 1_000_000 * b + 100_000 * c + 10_000 * d + 1_000 * e + 100 * f + 10 * g + h
    → Gives word value
gives a b c d e f g h word value la lb lc ld le lf lg lh bytes number =
    let rest : word / 256 ≡ number_l 256 (b ∷ c ∷ d ∷ e ∷ f ∷ g ∷ h ∷ []) = omega arith in
    let p : ℕ = pairs word in
    let first : p % 256 ≡ 10 * a + b = omega (arith, rest) in
    let second : p / 0x1_0000 % 256 ≡ 10 * c + d = omega (arith, rest) in
    let third : p / 0x1_0000_0000 % 256 ≡ 10 * e + f = omega (arith, rest) in
    let fourth : p / 0x1_0000_0000_0000 % 256 ≡ 10 * g + h = omega (arith, rest) in
    (omega (arith, rest), omega (arith, first, second, third, fourth), omega arith)

abbrev zeros : ℕ
zeros = 0x3030_3030_3030_3030

eight : (cs : List ℕ) → length cs ≡ 8 → all_ascii_digits cs ≡ true
    → (zeros ≤ number_l 256 cs) × Gives (number_l 256 cs - zeros) (digits_value 10 cs)
eight (c0 ∷ c1 ∷ c2 ∷ c3 ∷ c4 ∷ c5 ∷ c6 ∷ c7 ∷ []) long all =
    let a = first_digit c0 (c1 ∷ c2 ∷ c3 ∷ c4 ∷ c5 ∷ c6 ∷ c7 ∷ []) all in
    let b = first_digit c1 (c2 ∷ c3 ∷ c4 ∷ c5 ∷ c6 ∷ c7 ∷ []) a.1 in
    let c = first_digit c2 (c3 ∷ c4 ∷ c5 ∷ c6 ∷ c7 ∷ []) b.1 in
    let d = first_digit c3 (c4 ∷ c5 ∷ c6 ∷ c7 ∷ []) c.1 in
    let e = first_digit c4 (c5 ∷ c6 ∷ c7 ∷ []) d.1 in
    let f = first_digit c5 (c6 ∷ c7 ∷ []) e.1 in
    let g = first_digit c6 (c7 ∷ []) f.1 in
    let h = first_digit c7 [] g.1 in (
      omega (arith, a.0.code, b.0.code, c.0.code, d.0.code, e.0.code, f.0.code, g.0.code, h.0.code),
      gives a.0.digit b.0.digit c.0.digit d.0.digit e.0.digit f.0.digit g.0.digit h.0.digit _ _
          a.0.small b.0.small c.0.small d.0.small e.0.small f.0.small g.0.small h.0.small
          (omega (arith, a.0.code, b.0.code, c.0.code, d.0.code, e.0.code, f.0.code, g.0.code, h.0.code))
          (omega (arith, a.0.value, b.0.value, c.0.value, d.0.value, e.0.value, f.0.value, g.0.value, h.0.value)),
    )
eight cs long all = absurd (omega arith)

number_l-append : (xs ys : List ℕ) → number_l 256 (xs ++ ys) ≡ number_l 256 xs + 256 ^ length xs * number_l 256 ys
number_l-append [] ys = omega arith
number_l-append (x ∷ xs) ys =
    let power : 256 ^ suc (length xs) * number_l 256 ys ≡ 256 ^ length xs * number_l 256 ys * 256 =
    ap (λ p. p * number_l 256 ys) (pow-suc 256 (length xs)) ∙ mul_right_comm (256 ^ length xs) 256 (number_l 256 ys) in
    omega (arith, number_l-append xs ys, power)

number_l-below : (cs : List ℕ) → all_ascii_digits cs ≡ true → number_l 256 cs < 256 ^ length cs
number_l-below [] all = omega arith
number_l-below (c ∷ cs) all =
    let first = first_digit c cs all in
    omega (arith, first.0.small, first.0.code, number_l-below cs first.1, pow-suc 256 (length cs))

-- zeros in front change neither that these are digits nor their number
padded : (j : ℕ) (cs : List ℕ) → all_ascii_digits cs ≡ true
    → (all_ascii_digits (replicate j 48 ++ cs) ≡ true) × (digits_value 10 (replicate j 48 ++ cs) ≡ digits_value 10 cs)
padded zero cs all = (all, refl)
padded (suc j) cs all = padded j cs all

-- the bytes at the front of a word, moved to its end
abbrev pub moved : ℕ → ℕ → ℕ
moved word count = word * 2 ^ (8 * (8 - count)) % 2 ^ 64

is_moved : (count low high : ℕ) → count ≤ 8 → low < 256 ^ count
    → (moved (low + 256 ^ count * high) count ≡ 256 ^ (8 - count) * low)
    × (moved zeros count + number_l 256 (replicate (8 - count) 48) ≡ zeros)
is_moved zero low high few less = (omega arith, refl)
is_moved (suc zero) low high few less = (omega arith, refl)
is_moved (suc (suc zero)) low high few less = (omega arith, refl)
is_moved (suc (suc (suc zero))) low high few less = (omega arith, refl)
is_moved (suc (suc (suc (suc zero)))) low high few less = (omega arith, refl)
is_moved (suc (suc (suc (suc (suc zero))))) low high few less = (omega arith, refl)
is_moved (suc (suc (suc (suc (suc (suc zero)))))) low high few less = (omega arith, refl)
is_moved (suc (suc (suc (suc (suc (suc (suc zero))))))) low high few less = (omega arith, refl)
is_moved (suc (suc (suc (suc (suc (suc (suc (suc zero)))))))) low high few less = (omega arith, refl)
is_moved (suc (suc (suc (suc (suc (suc (suc (suc (suc n))))))))) low high few less = absurd (omega arith)

word_of : (bytes : List ℕ) → length bytes ≡ 8 → from_le_bytes w64 bytes ≡ number_l 256 bytes
word_of (b0 ∷ b1 ∷ b2 ∷ b3 ∷ b4 ∷ b5 ∷ b6 ∷ b7 ∷ []) long = omega arith
word_of bytes long = absurd (omega arith)

-- moved and less as many zeros, digits give their number
pub record AreDigits (word count value : ℕ) : Type 0 where
  pub above : moved zeros count ≤ moved word count
  pub gives : Gives (moved word count - moved zeros count) value

pub are_digits : (bytes : List ℕ) (word count : ℕ) → word ≡ from_le_bytes w64 bytes → length bytes ≡ 8 → count ≤ 8
    → all_ascii_digits (take count bytes) ≡ true → AreDigits word count (digits_value 10 (take count bytes))
are_digits bytes word count is long few all =
    let front : List ℕ = take count bytes in
    let behind : List ℕ = drop count bytes in
    let short : length front ≡ count = omega (arith, length-take count bytes) in
    let cut : word ≡ number_l 256 front + 256 ^ count * number_l 256 behind =
    is ∙ word_of bytes long ∙ ap (number_l 256) (sym (take-append-drop count bytes)) ∙ number_l-append front behind
    ∙ ap (λ n. number_l 256 front + 256 ^ n * number_l 256 behind) short in
    let low : number_l 256 front < 256 ^ count = subst (λ n. number_l 256 front < 256 ^ n) short (number_l-below front all) in
    let there = is_moved count (number_l 256 front) (number_l 256 behind) few low in
    let word_moved : moved word count ≡ 256 ^ (8 - count) * number_l 256 front = ap (λ w. moved w count) cut ∙ there.0 in
    let pad : List ℕ = replicate (8 - count) 48 in
    let pad_long : length pad ≡ 8 - count = length-replicate (8 - count) 48 in
    let whole : number_l 256 (pad ++ front) ≡ number_l 256 pad + 256 ^ (8 - count) * number_l 256 front =
    number_l-append pad front ∙ ap (λ n. number_l 256 pad + 256 ^ n * number_l 256 front) pad_long in
    let digits = padded (8 - count) front all in
    let read = eight (pad ++ front) (omega (arith, length-append pad front, pad_long, short)) digits.0 in
    let same : number_l 256 (pad ++ front) - zeros ≡ moved word count - moved zeros count = omega (arith, whole, word_moved, there.1) in
    record { above = omega (arith, read.0, whole, word_moved, there.1); gives = subst₂ Gives same digits.1 read.1 }
