-- Texts that are handed over.
use Rattle.std.specs.Prelude.{◌≡◌, ℕ, ◌<◌, ◌≤◌, List, ◌++◌, drop, length}

-- a text of the kind has n bytes; where it fits it is the front of what there is room for, and else nothing has changed
pub record IsHandedOver (kind : List ℕ → Type 0) (n : ℕ) (old new : List ℕ) : Type 0 where
  pub text : List ℕ
  pub is : kind text
  pub count : n ≡ length text
  pub fits : length text ≤ length old → new ≡ text ++ drop (length text) old
  pub large : length old < length text → new ≡ old
