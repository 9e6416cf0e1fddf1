-- The words of a seed: streams of SplitMix64, whose state moves by the same step at each word.
use Rattle.std.specs.Prelude.{ℕ, ◌+◌, ◌*◌, ◌%◌, ◌^◌}
use Rattle.rand_xoshiro.specs.SplitMix64.{mix_u64}
use Rattle.ghs_make.specs.declared.word.TheConstants.{STEP}

-- the word of this number from a state on: so many steps on from it
unfoldable pub word_at : ℕ → ℕ → ℕ
word_at state number = (mix_u64 ((state + number * STEP % 2 ^ 64) % 2 ^ 64)).0

-- a stream begins at the seed's word of its number
abbrev pub word : ℕ → ℕ → ℕ → ℕ
word seed stream number = word_at (word_at seed stream) number
