-- The pairs that are published, and lists of them.
use Rattle.std.specs.Prelude.{◌≡◌, ◌==◌, ℕ, ◌+◌, ◌*◌, ◌/◌, ◌%◌, ◌≤◌, Bool, true, false, cond, List, [], ◌∷◌, ◌++◌}
use Rattle.ghs_shared.specs.declared.progress.Progress.{Progress}

abbrev pub pair : ℕ → Bool → Progress
pair commits halted = record { commits = commits; halted = halted }

-- the word that stands for a pair
abbrev pub word_of : Progress → ℕ
word_of p = 2 * p.commits + cond p.halted 1 0

-- the pair that a word stands for
abbrev pub pair_of : ℕ → Progress
pair_of n = pair (n / 2) (n % 2 == 1)

-- the last of a list, or else another
abbrev pub last_or : Progress → List Progress → Progress
last_or other [] = other
last_or other (p ∷ ps) = last_or p ps

-- the last pair of a list; of an empty list the least pair
abbrev pub last_of : List Progress → Progress
last_of ps = last_or (pair 0 false) ps

-- neither part has fallen
pub record NoLess (before after : Progress) : Type 0 where
  pub commits : before.commits ≤ after.commits
  pub halted : before.halted ≡ true → after.halted ≡ true

-- neither part falls from one pair on
abbrev pub RisesFrom : Progress → List Progress → Type 0
RisesFrom p [] = Unit {0}
RisesFrom p (q ∷ qs) = NoLess p q × RisesFrom q qs

-- neither part ever falls
abbrev pub IsRising : List Progress → Type 0
IsRising ps = RisesFrom (pair 0 false) ps

-- the list begins with these
abbrev pub StartsWith : List Progress → List Progress → Type 0
StartsWith ps front = (rest : List Progress) × (ps ≡ front ++ rest)
