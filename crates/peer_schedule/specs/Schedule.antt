-- Schedules: the words of a generator, the state of which is a list of four.
use Rattle.std.specs.Prelude.{ℕ, List}
use Rattle.rand_xoshiro.specs.SplitMix64.{splitmix_seed}
use Rattle.rand_xoshiro.specs.Xoshiro256.{of_seed, plus_plus}

-- the state that a seed gives
abbrev pub seeded : ℕ → List ℕ
seeded seed = of_seed (splitmix_seed 32 seed)

-- the next word
abbrev pub word_of : List ℕ → ℕ
word_of words = (plus_plus words).0

-- the state behind it
abbrev pub next_of : List ℕ → List ℕ
next_of words = (plus_plus words).1
