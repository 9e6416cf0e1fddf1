-- Classes of numbers: the numbers of a class have the same root, the least of them.
use Rattle.std.specs.Prelude.{◌≡◌, ◌≢◌, ℕ, zero, suc, ◌<◌, ◌≤◌, ◌^◌, max, min, map, List, length, slice_index}
use Rattle.std.specs.List.{range_with_len}

-- two numbers are in one class
abbrev pub AreTogether : List ℕ → ℕ → ℕ → Type 0
AreTogether rs x y = slice_index rs x ≡ slice_index rs y

-- each number is alone, and its own root
abbrev pub IsFresh : List ℕ → Type 0
IsFresh rs = (v : ℕ) → v < length rs → slice_index rs v ≡ v

-- no root is above its number, and each is its own root
pub record AreLeast (rs : List ℕ) : Type 0 where
  pub low : (v : ℕ) → v < length rs → slice_index rs v ≤ v
  pub own : (v : ℕ) → v < length rs → slice_index rs (slice_index rs v) ≡ slice_index rs v

-- the class of one root has another root
pub record Moves (old new : List ℕ) (from to : ℕ) : Type 0 where
  pub same : length new ≡ length old
  pub moved : (x : ℕ) → x < length old → slice_index old x ≡ from → slice_index new x ≡ to
  pub stay : (x : ℕ) → x < length old → slice_index old x ≢ from → slice_index new x ≡ slice_index old x

-- the classes of u and v are one, whose root is the lesser of theirs; where they were one, nothing changes
abbrev pub Unites : List ℕ → List ℕ → ℕ → ℕ → Type 0
Unites old new u v = Moves old new (max (slice_index old u) (slice_index old v)) (min (slice_index old u) (slice_index old v))

-- How roots are found: each number leads up to a lesser one of its class, and a root leads to itself.

-- no number leads to a greater one
pub record LeadDown (up : List ℕ) : Type 0 where
  pub few : length up < 2 ^ 32
  pub down : (x : ℕ) → x < length up → slice_index up x ≤ x

-- where so many steps from x lead
unfoldable pub after : List ℕ → ℕ → ℕ → ℕ
after up zero x = x
after up (suc k) x = after up k (slice_index up x)

-- the root of x: each step before it leads to a lesser number, so x steps reach it
unfoldable pub root_of : List ℕ → ℕ → ℕ
root_of up x = after up x x

-- the root of each number
unfoldable pub roots_of : List ℕ → List ℕ
roots_of up = map (root_of up) (range_with_len 0 (length up))
