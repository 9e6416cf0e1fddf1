-- Which bytes of a text are no digits.
use Rattle.std.proofs.Common.{◌≡◌, ◌∙◌, ◌+◌, ◌-◌, ◌*◌, ◌/◌, ◌%◌, ◌<◌, ◌≤◌, ◌^◌, ◌&&◌, ℕ, zero, suc, Bool, true, false, not, cond, leb, List, [], ◌∷◌, length, take, drop, map, replicate, arith, refl, sym, subst, ap, ap₂, w8, Fits}
use Rattle.std.proofs.Math.Nat.{div-div-eq-div-mul, pow-suc, zero-div, mul_comm}
use Rattle.std.proofs.lemmas.Bool.{and_from, leb-true, leb-false, le-leb, lt-leb}
use Rattle.std.proofs.lemmas.List.{length-map, drop-map, length-drop, length-take}
use Rattle.std.proofs.lemmas.Simd.{zip2_splat, zip2_splat_left, map-map, mask_l-mod, trailing_mask_l}
use Rattle.std.specs.Char.{is_ascii_digit}
use Rattle.std.specs.Int.Count.{trailing_of_zero}
use Rattle.std.specs.List.{prefix_len}
use Rattle.std.specs.Str.{all_ascii_digits}
use Rattle.ghs_gr.specs.Stops.{AreStops, is_stop}
use lib.Count.{count_trailing_zeros}
use lib.Lanes.{zip2, mask_l, top, Each1}

half : (m : Bool) (n : ℕ) → (cond m 1 0 + 2 * n) / 2 ≡ n
half true n = omega arith
half false n = omega arith

mask_l-drop : (ms : List Bool) (k : ℕ) → mask_l ms / 2 ^ k ≡ mask_l (drop k ms)
mask_l-drop ms zero = omega arith
mask_l-drop [] (suc k) = zero-div (2 ^ suc k)
mask_l-drop (m ∷ ms) (suc k) =
    ap (λ n. (cond m 1 0 + 2 * mask_l ms) / n) (pow-suc 2 k ∙ mul_comm (2 ^ k) 2)
    ∙ sym (div-div-eq-div-mul (cond m 1 0 + 2 * mask_l ms) 2 (2 ^ k))
    ∙ ap (λ n. n / 2 ^ k) (half m (mask_l ms))
    ∙ mask_l-drop ms k

abbrev digits_in : List ℕ → ℕ
digits_in xs = prefix_len (λ x. not (is_stop x)) xs

-- these bytes are digits, with another behind them
record AreFirst (xs : List ℕ) (n : ℕ) : Type 0 where
  within : n < length xs
  digits : all_ascii_digits (take n xs) ≡ true

first_of : (x : ℕ) (xs : List ℕ) (b : Bool) → is_ascii_digit x ≡ b → (0 < mask_l (map is_stop xs) → AreFirst xs (digits_in xs))
    → 0 < cond (not b) 1 0 + 2 * mask_l (map is_stop xs) → AreFirst (x ∷ xs) (cond (not (not b)) (1 + digits_in xs) 0)
first_of x xs true is more some =
    let rest : AreFirst xs (digits_in xs) = more (omega arith) in
    let next : suc (digits_in xs) ≡ 1 + digits_in xs = omega arith in
    record {
      within = omega (arith, rest.within);
      digits = subst (λ n. all_ascii_digits (take n (x ∷ xs)) ≡ true) next (and_from _ _ is rest.digits);
    }
first_of x xs false is more some = record { within = omega arith; digits = refl }

is_first : (xs : List ℕ) → 0 < mask_l (map is_stop xs) → AreFirst xs (digits_in xs)
is_first [] some = absurd (omega arith)
is_first (x ∷ xs) some = first_of x xs (is_ascii_digit x) refl (is_first xs) some

positive : (n : ℕ) → count_trailing_zeros 64 n < 64 → 0 < n
positive zero some = absurd (omega (arith, trailing_of_zero 64))
positive (suc n) some = omega arith

pub take_less : (n m : ℕ) (xs : List ℕ) → n ≤ m → take n (take m xs) ≡ take n xs
take_less zero m xs less = refl
take_less (suc n) zero xs less = absurd (omega arith)
take_less (suc n) (suc m) [] less = refl
take_less (suc n) (suc m) (x ∷ xs) less = ap (λ l. x ∷ l) (take_less n m xs (omega arith))

pub digits_before : (stops : ℕ) (text : List ℕ) → AreStops stops text → count_trailing_zeros 64 stops < 64
    → (count_trailing_zeros 64 stops < length text) × (all_ascii_digits (take (count_trailing_zeros 64 stops) text) ≡ true)
digits_before stops text are some =
    let xs : List ℕ = take are.count text in
    let n : ℕ = count_trailing_zeros 64 stops in
    let set : 0 < mask_l (map is_stop xs) = subst (λ m. 0 < m) are.bits (positive stops some) in
    let short : length xs ≤ 64 = omega (arith, are.few, are.within, length-take are.count text) in
    let same : n ≡ digits_in xs = ap (count_trailing_zeros 64) are.bits ∙ trailing_mask_l is_stop 64 xs short set in
    let first : AreFirst xs n = subst (AreFirst xs) (sym same) (is_first xs set) in
    let less : n ≤ are.count = omega (arith, first.within, length-take are.count text) in
    (omega (arith, first.within, length-take are.count text), ap all_ascii_digits (sym (take_less n are.count text less)) ∙ first.digits)

empty : (n : ℕ) → [] ≡ take {A = ℕ} n []
empty zero = refl
empty (suc n) = refl

cut : (k n : ℕ) (xs : List ℕ) → drop k (take n xs) ≡ take (n - k) (drop k xs)
cut zero n xs = ap (λ m. take m xs) (omega arith)
cut (suc k) zero xs = let none : 0 ≡ 0 - suc k = omega arith in ap (λ m. take m (drop (suc k) xs)) none
cut (suc k) (suc n) [] = empty (suc n - suc k)
cut (suc k) (suc n) (x ∷ xs) = cut k n xs ∙ ap (λ m. take m (drop k xs)) (omega arith)

pub stops_behind : (stops : ℕ) (text : List ℕ) (k : ℕ) → AreStops stops text → AreStops (stops / 2 ^ k) (drop k text)
stops_behind stops text k are =
    let xs : List ℕ = take are.count text in
    let rest = drop-map is_stop k xs ∙ ap (map is_stop) (cut k are.count text) in
    record {
      count = are.count - k;
      few = omega (arith, are.few);
      within = omega (arith, are.within, length-drop k text);
      bits = ap (λ n. n / 2 ^ k) are.bits ∙ mask_l-drop (map is_stop xs) k ∙ ap mask_l rest;
    }

-- what the vector's operations make of two bytes
abbrev less : ℕ → ℕ → ℕ
less a b = (a + (256 - b)) % 256

abbrev at_most : ℕ → ℕ → ℕ
at_most a b = cond (leb a b) 255 0

byte_by : (x : ℕ) → x < 256 → (a b : Bool) → leb 48 x ≡ a → leb x 57 ≡ b → top 7 (at_most 10 (less x 48)) ≡ not (a && b)
byte_by x small true true e f = ap (λ t. top 7 (cond t 255 0)) (lt-leb 10 (less x 48) (omega (arith, leb-true 48 x e, leb-true x 57 f)))
byte_by x small true false e f = ap (λ t. top 7 (cond t 255 0)) (le-leb 10 (less x 48) (omega (arith, leb-false x 57 f)))
byte_by x small false b e f = ap (λ t. top 7 (cond t 255 0)) (le-leb 10 (less x 48) (omega (arith, leb-false 48 x e)))

bytes_are : (xs : List ℕ) → Each1 (Fits w8) xs → map (λ x. top 7 (at_most 10 (less x 48))) xs ≡ map is_stop xs
bytes_are [] fit = refl
bytes_are (x ∷ xs) fit = ap₂ (λ b bs. b ∷ bs) (byte_by x fit.0.fits (leb 48 x) (leb x 57) refl refl) (bytes_are xs fit.1)

pub stops_are : (v : List ℕ) → length v ≡ 32 → Each1 (Fits w8) v
    → mask_l (map (top 7) (zip2 at_most (replicate 32 10) (zip2 less v (replicate 32 48)))) % 2 ^ 64 ≡ mask_l (map is_stop v)
stops_are v long fit =
    let reduced : List ℕ = map (λ x. less x 48) v in
    let first = zip2_splat less v 32 48 long in
    let second = zip2_splat_left at_most 10 32 reduced (length-map v (λ x. less x 48) ∙ long) in
    let tops = map-map (top 7) (at_most 10) reduced ∙ map-map (λ y. top 7 (at_most 10 y)) (λ x. less x 48) v ∙ bytes_are v fit in
    ap (λ l. mask_l (map (top 7) (zip2 at_most (replicate 32 10) l)) % 2 ^ 64) first
    ∙ ap (λ l. mask_l (map (top 7) l) % 2 ^ 64) second
    ∙ ap (λ l. mask_l l % 2 ^ 64) tops
    ∙ mask_l-mod (map is_stop v) 64 (omega (arith, length-map v is_stop, long))
