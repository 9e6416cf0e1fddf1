-- The bits of a word of 64. Bit 0 is the lowest.
use Rattle.std.specs.Prelude.{◌≡◌, ℕ, ◌^◌, ◌%◌, ◌<◌, ◌==◌, Bool, true, count_ones, bit_xor}
use Rattle.std.specs.Int.{bit_at}

abbrev pub has_bit : ℕ → ℕ → Bool
has_bit w i = bit_at w i == 1

-- how many of the bits below bit i are set
abbrev pub ones_below : ℕ → ℕ → ℕ
ones_below w i = count_ones (w % 2 ^ i)

-- the word in which bit i is the other way
abbrev pub turned : ℕ → ℕ → ℕ
turned w i = bit_xor w (2 ^ i)

-- i is the set bit below which k are set
pub record IsNthBit (w k i : ℕ) : Type 0 where
  pub within : i < 64
  pub here : has_bit w i ≡ true
  pub below : ones_below w i ≡ k
