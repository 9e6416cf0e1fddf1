-- Flags as the bits of words.
use Rattle.std.specs.Prelude.{◌≡◌, ℕ, ◌+◌, ◌*◌, ◌/◌, ◌%◌, ◌^◌, ◌<◌, ◌≤◌, Bool, true, List, length, take, map, slice_index, count_ones}
use Rattle.std.specs.List.{sum_by, range_with_len}
use Rattle.ghs_flags.specs.declared.flags.TheConstants.{FLAG_LIMIT}
use Rattle.ghs_flags.specs.Word.{has_bit, ones_below}
use Rattle.ghs_flags.specs.Flags.{count}

-- flag p is bit p % 64 of word p / 64
abbrev pub flag_at : List ℕ → ℕ → Bool
flag_at words p = has_bit (slice_index words (p / 64)) (p % 64)

-- the first n flags
unfoldable pub flags_of : List ℕ → ℕ → List Bool
flags_of words n = map (flag_at words) (range_with_len 0 n)

-- how many bits are set in the first i words
abbrev pub ones_of : ℕ → List ℕ → ℕ
ones_of i words = sum_by count_ones (take i words)

-- how many bits are set before that of flag p
abbrev pub rank : List ℕ → ℕ → ℕ
rank words p = ones_of (p / 64) words + ones_below (slice_index words (p / 64)) (p % 64)

-- the bit of flag p is set, and k before it
pub record IsNthFlag (words : List ℕ) (k p : ℕ) : Type 0 where
  pub within : p < length words * 64
  pub here : flag_at words p ≡ true
  pub before : rank words p ≡ k

-- words for n flags, and no bit set past them
pub record IsRow (words : List ℕ) (n : ℕ) : Type 0 where
  pub bits : (k : ℕ) → slice_index words k < 2 ^ 64
  pub few : n ≤ FLAG_LIMIT
  pub enough : length words ≡ n / 64 + 1
  pub all : sum_by count_ones words ≡ count (flags_of words n)
