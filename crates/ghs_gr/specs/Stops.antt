-- Which bytes of a text are no digits.
use Rattle.std.specs.Char.{is_ascii_digit}
use Rattle.std.specs.Prelude.{ℕ, Bool, ◌≡◌, ◌≤◌, length, map, not, take, List}
use Rattle.std.specs.Simd.Lanes.{mask_l}

abbrev pub is_stop : ℕ → Bool
is_stop b = not (is_ascii_digit b)

-- the word of the first so many bytes: bit k, from the lowest on, is 1 where byte k is no digit; its other bits are 0
abbrev pub word_of : ℕ → List ℕ → ℕ
word_of count text = mask_l (map is_stop (take count text))

-- a number is the word of the first bytes, of some number of them
pub record AreStops (stops : ℕ) (text : List ℕ) : Type 0 where
  pub count : ℕ
  pub few : count ≤ 64
  pub within : count ≤ length text
  pub bits : stops ≡ word_of count text
