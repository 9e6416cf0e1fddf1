-- The bits of a word: their count, and its lowest set bit.
use Rattle.std.proofs.Common.{◌≡◌, ℕ, zero, suc, ◌+◌, ◌-◌, ◌*◌, ◌/◌, ◌%◌, ◌^◌, ◌<◌, ◌≤◌, ◌≢◌, not, true, false, refl, sym, ap, ◌∙◌, arith, pow_pos, eq-eqb, eqb-true, ne_eqb, ⊎_elim, add-one, subst, mod-eq_of_lt, cond}
use Rattle.std.specs.Prelude.{Some, None, bit_and, count_ones, nat_eq}
use Rattle.std.specs.Int.{bit_at, trailing_zeros, w64}
use Rattle.std.specs.Int.Count.{ones, ones_cat}
use Rattle.std.specs.Int.Bits.{and_self}
use Rattle.std.proofs.lemmas.Nat.{mod-pow-add, mod_below, and_block, and_mask, shr_split, shr-shr, pow_below, shr_high, mod_low, shr_le, ones_le_self}
use Rattle.std.proofs.lemmas.Nat.Bits.{bit_at-trailing_zeros, bit_at-zero, bit_at_cat_low, bit_at_cat_high, bit_at_above, bit_at-lt, bit_at_xor, bit_at-pow_same, bit_at-pow_other}
use Rattle.std.proofs.lemmas.Bool.{cases_lt}
use Rattle.ghs_flags.specs.First.{IsFirst}
use Rattle.ghs_flags.specs.Word.{IsNthBit, has_bit, ones_below, turned}

pub ones_small : (b : ℕ) → b < 2 → count_ones b ≡ b
unfolding ones
ones_small zero lt = refl
ones_small (suc zero) lt = refl
ones_small (suc (suc b)) lt = absurd (omega arith)

-- the bits below a bit, with the bit itself
cut : (w i : ℕ) → w % 2 ^ (i + 1) ≡ bit_at w i * 2 ^ i + w % 2 ^ i
cut w i = ap (λ (n : ℕ). w % 2 ^ n) (omega arith) ∙ mod-pow-add w 1 i

-- they are counted one by one
pub ones_below-suc : (w i : ℕ) → ones_below w (i + 1) ≡ ones_below w i + bit_at w i
ones_below-suc w i =
    let cat = ones_cat i (bit_at w i) (w % 2 ^ i) (mod_below w (2 ^ i) (pow_pos i)) in
    let one = ones_small (bit_at w i) (bit_at-lt w i) in
    ap count_ones (cut w i) ∙ cat ∙ omega (arith, one)

pub ones_below-zero : (w : ℕ) → ones_below w 0 ≡ 0
ones_below-zero w = ap count_ones (let e : w % 1 ≡ 0 = omega arith in e) ∙ ones_small 0 (omega arith)

-- a front without a set bit
none_below : (w t : ℕ) → ((i : ℕ) → i < t → bit_at w i ≡ 0) → w % 2 ^ t ≡ 0
none_below w zero none = let e : w % 1 ≡ 0 = omega arith in e
none_below w (suc t) none =
    let rest = none_below w t (λ i lt. none i (omega arith)) in
    let here = none t (omega arith) in
    rw (← add-one t) (cut w t ∙ rw (here, rest) (let e : 0 * 2 ^ t + 0 ≡ 0 = omega arith in e))

-- A number with its lowest set bit t, and a above it.
module _ (a t : ℕ) where
  alone : 2 ^ t ≡ 1 * 2 ^ t + 0
  alone = omega arith

  one : count_ones (2 ^ t) ≡ 1
  one = ap count_ones alone ∙ ones_cat t 1 0 (pow_pos t) ∙ omega (arith, ones_small 1 (omega arith), ones_small 0 (omega arith))

  below : 2 ^ t < 2 ^ (t + 1)
  below = pow_below t (t + 1) (omega arith)

  -- the number less that bit
  cleared : bit_and (a * 2 ^ (t + 1) + 2 ^ t) (a * 2 ^ (t + 1) + 2 ^ t - 1) ≡ a * 2 ^ (t + 1)
  cleared =
      let pos = pow_pos t in
      let less : a * 2 ^ (t + 1) + 2 ^ t - 1 ≡ a * 2 ^ (t + 1) + (2 ^ t - 1) = omega arith in
      let low : bit_and (2 ^ t) (2 ^ t - 1) ≡ 0 = and_mask (2 ^ t) t ∙ ap (λ (n : ℕ). n % 2 ^ t) alone ∙ mod_low 1 t 0 pos in
      let all = and_self a in
      ap (bit_and (a * 2 ^ (t + 1) + 2 ^ t)) less ∙ and_block (t + 1) a a (2 ^ t) (2 ^ t - 1) below (let lt = below in omega arith)
      ∙ rw (all, low) (omega arith)

  one_less : count_ones (a * 2 ^ (t + 1) + 2 ^ t) ≡ count_ones (a * 2 ^ (t + 1)) + 1
  one_less =
      let with = ones_cat (t + 1) a (2 ^ t) below in
      let without = ones_cat (t + 1) a 0 (pow_pos (t + 1)) in
      let same : count_ones (a * 2 ^ (t + 1) + 0) ≡ count_ones (a * 2 ^ (t + 1)) = ap count_ones (omega arith) in
      omega (arith, one, ones_small 0 (omega arith))

  -- no bit below is set, and above them are the same bits
  above : (i : ℕ) → has_bit (a * 2 ^ (t + 1)) i ≡ true → t + 1 ≤ i
  above i set = ⊎_elim
      (λ (lt : i < t + 1).
      let zero : bit_at (a * 2 ^ (t + 1)) i ≡ 0 = ap (λ (n : ℕ). bit_at n i) (omega arith) ∙ bit_at_cat_low a (t + 1) 0 i lt ∙ bit_at-zero i in
      let one = eqb-true _ _ set in
      absurd (omega arith))
      (λ (le : t + 1 ≤ i). le) (cases_lt i (t + 1))

  same : (i : ℕ) → t + 1 ≤ i → bit_at (a * 2 ^ (t + 1) + 2 ^ t) i ≡ bit_at (a * 2 ^ (t + 1)) i
  same i le =
      bit_at_cat_high a (t + 1) (2 ^ t) i below le ∙ sym (bit_at_cat_high a (t + 1) 0 i (pow_pos (t + 1)) le)
      ∙ ap (λ (n : ℕ). bit_at n i) (omega arith)

  front : (r j : ℕ) → r < 2 ^ (t + 1) → ones_below (a * 2 ^ (t + 1) + r) (j + (t + 1)) ≡ count_ones (a % 2 ^ j) + count_ones r
  front r j lt =
      ap count_ones (mod-pow-add (a * 2 ^ (t + 1) + r) j (t + 1) ∙ rw (shr_high a (t + 1) r lt, mod_low a (t + 1) r lt))
      ∙ ones_cat (t + 1) (a % 2 ^ j) r lt

  one_more_below : (i : ℕ) → t + 1 ≤ i → ones_below (a * 2 ^ (t + 1) + 2 ^ t) i ≡ ones_below (a * 2 ^ (t + 1)) i + 1
  one_more_below i le =
      let with = front (2 ^ t) (i - (t + 1)) below in
      let without = front 0 (i - (t + 1)) (pow_pos (t + 1)) in
      let place : i - (t + 1) + (t + 1) ≡ i = omega arith in
      let same : ones_below (a * 2 ^ (t + 1) + 0) i ≡ ones_below (a * 2 ^ (t + 1)) i = ap (λ (n : ℕ). ones_below n i) (omega arith) in
      omega (arith, rw place at with, rw place at without, one, ones_small 0 (omega arith))

  nth_above : (k i : ℕ) → IsNthBit (a * 2 ^ (t + 1)) k i → IsNthBit (a * 2 ^ (t + 1) + 2 ^ t) (k + 1) i
  nth_above k i nth =
      let le = above i nth.here in record {
        within = nth.within;
        here = ap (λ (n : ℕ). nat_eq n 1) (same i le) ∙ nth.here;
        below = one_more_below i le ∙ ap (λ (n : ℕ). n + 1) nth.below;
      }

-- each word but 0 has a lowest set bit
by_lowest : (P : ℕ → Type 0) → ((a t : ℕ) → P (a * 2 ^ (t + 1) + 2 ^ t)) → (w : ℕ) → 0 < w → w < 2 ^ 64 → P w
by_lowest P each w some fits =
    let t = trailing_zeros w64 w in
    let lowest = bit_at-trailing_zeros w64 w some fits in
    let low = cut w t ∙ rw (lowest.1, none_below w t lowest.2) (omega arith) in
    subst P (ap (λ (n : ℕ). w / 2 ^ (t + 1) * 2 ^ (t + 1) + n) (sym low) ∙ shr_split w (t + 1)) (each (w / 2 ^ (t + 1)) t)

-- the first set bit is the lowest
pub nth-zero : (w : ℕ) → 0 < w → w < 2 ^ 64 → IsNthBit w 0 (trailing_zeros w64 w)
nth-zero w some fits =
    let lowest = bit_at-trailing_zeros w64 w some fits in record {
      within = lowest.0;
      here = eq-eqb _ _ lowest.1;
      below = ap count_ones (none_below w (trailing_zeros w64 w) lowest.2) ∙ ones_small 0 (omega arith);
    }

-- the others are those of the word without its lowest
pub nth-suc : (w k i : ℕ) → 0 < w → w < 2 ^ 64 → IsNthBit (bit_and w (w - 1)) k i → IsNthBit w (k + 1) i
nth-suc w k i = by_lowest (λ n. IsNthBit (bit_and n (n - 1)) k i → IsNthBit n (k + 1) i) (λ a t nth. nth_above a t k i (rw (cleared a t) at nth)) w

pub ones-cleared : (w : ℕ) → 0 < w → w < 2 ^ 64 → count_ones w ≡ count_ones (bit_and w (w - 1)) + 1
ones-cleared w =
    by_lowest (λ n. count_ones n ≡ count_ones (bit_and n (n - 1)) + 1) (λ a t. one_less a t ∙ ap (λ (n : ℕ). count_ones n + 1) (sym (cleared a t))) w

-- the bits from bit i on are those of the word moved down
bit_at-shr : (w i j : ℕ) → bit_at (w / 2 ^ i) j ≡ bit_at w (i + j)
bit_at-shr w i j = ap (λ (n : ℕ). n % 2) (shr-shr w i j)

unset : (w i j : ℕ) → i ≤ j → bit_at (w / 2 ^ i) (j - i) ≡ 0 → has_bit w j ≡ false
unset w i j le none =
    let place : i + (j - i) ≡ j = omega arith in
    let moved = rw place at (bit_at-shr w i (j - i)) in
    ne_eqb _ _ (λ (one : bit_at w j ≡ 1). absurd (omega arith))

pub first-none : (w i : ℕ) → w / 2 ^ i ≡ 0 → IsFirst (has_bit w) i 64 None
first-none w i none j le end = unset w i j le (ap (λ (n : ℕ). bit_at n (j - i)) none ∙ bit_at-zero (j - i))

pub first-some : (w i : ℕ) → w < 2 ^ 64 → 0 < w / 2 ^ i → IsFirst (has_bit w) i 64 (Some (i + trailing_zeros w64 (w / 2 ^ i)))
first-some w i fits some =
    let rest = w / 2 ^ i in
    let t = trailing_zeros w64 rest in
    let le : rest ≤ w = shr_le w i in
    let lowest = bit_at-trailing_zeros w64 rest some (omega arith) in
    let one : bit_at w (i + t) ≡ 1 = sym (bit_at-shr w i t) ∙ lowest.1 in (
      omega arith,
      ⊎_elim (λ (lt : i + t < 64). lt) (λ (past : 64 ≤ i + t). let zero = bit_at_above w 64 (i + t) fits past in absurd (omega arith))
          (cases_lt (i + t) 64),
      eq-eqb _ _ one,
      λ m lo hi. unset w i m lo (lowest.2 (m - i) (omega arith)),
    )

-- a word with a set bit isn't 0
pub pos_from_ones : (w : ℕ) → 0 < count_ones w → 0 < w
pos_from_ones w some = omega (arith, ones_le_self w)

pub ones_below-all : (w : ℕ) → w < 2 ^ 64 → ones_below w 64 ≡ count_ones w
ones_below-all w fits = ap count_ones (mod-eq_of_lt fits)

one_if_one : (b : ℕ) → b < 2 → b ≡ cond (nat_eq b 1) 1 0
one_if_one zero lt = refl
one_if_one (suc zero) lt = refl
one_if_one (suc (suc b)) lt = absurd (omega arith)

pub one_if_set : (w i : ℕ) → bit_at w i ≡ cond (has_bit w i) 1 0
one_if_set w i = one_if_one (bit_at w i) (bit_at-lt w i)

-- a turned bit is the other way, and the others are as they were
pub turned_same : (w i : ℕ) → has_bit (turned w i) i ≡ not (has_bit w i)
turned_same w i = ap (λ (n : ℕ). nat_eq n 1) (bit_at_xor w (2 ^ i) i) ∙ rw (bit_at-pow_same i) (other (bit_at w i) (bit_at-lt w i))
  where
    other : (b : ℕ) → b < 2 → nat_eq ((b + 1) % 2) 1 ≡ not (nat_eq b 1)
    other zero lt = refl
    other (suc zero) lt = refl
    other (suc (suc b)) lt = absurd (omega arith)

pub turned_other : (w i j : ℕ) → j ≢ i → has_bit (turned w i) j ≡ has_bit w j
turned_other w i j ne =
    let same : (bit_at w j + 0) % 2 ≡ bit_at w j = let lt = bit_at-lt w j in omega arith in
    ap (λ (n : ℕ). nat_eq n 1) (bit_at_xor w (2 ^ i) j ∙ rw (bit_at-pow_other i j ne) same)
