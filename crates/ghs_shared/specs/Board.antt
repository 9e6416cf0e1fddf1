-- One list of published pairs, and what each seat of the board knows of it.
use Rattle.std.specs.Prelude.{◌≡◌, ℕ, ◌<◌, true, false, List, [], ◌∷◌, ◌++◌, length}
use mathlib.Core.Option.{some}
use lib.ListN.{get_elem?}
use Rattle.atomic_table.specs.Table.{State, Me, Step}
use Rattle.atomic_table.specs.Seated.{TableId}
use Rattle.ghs_shared.specs.declared.progress.Progress.{Progress}
use Rattle.ghs_shared.specs.declared.board_rule.Watch.{Watch}
use Rattle.ghs_shared.specs.Progress.{word_of, pair_of, last_of, IsRising, StartsWith}

-- what a contract sees of a publisher: its board, and all that was published
pub record Published : Type 0 where
  pub table : TableId
  pub list : List Progress

-- what a contract sees of a reader: its board, and what it has seen of all that was published
pub record Sight : Type 0 where
  pub table : TableId
  pub seen : List Progress

abbrev pub publisher_of : List Progress → Watch
publisher_of ps = record { publishes = true; seen = ps; told = [] }

abbrev pub reader_of : List Progress → Watch
reader_of ps = record { publishes = false; seen = ps; told = [] }

-- the first seat, once it is told what the second has seen
abbrev pub informed : Watch → Watch → Watch
informed v w = record { publishes = v.publishes; seen = v.seen; told = w.seen }

-- one seat alone publishes, and has seen the whole list; each other has seen, and was told of, a beginning of it
abbrev pub Fits : ℕ → List Progress → ℕ → Watch → Type 0
Fits seat all id v = (v.publishes ≡ true → (id ≡ seat) × (v.seen ≡ all)) × StartsWith all v.seen × StartsWith all v.told

-- the rule: there is one rising list, whose last pair is the word, and each seat fits it
pub record IsBoard (s : State ℕ Watch) : Type 0 where
  pub seat : ℕ
  pub all : List Progress
  pub some_pair : 0 < length all
  pub rising : IsRising all
  pub word : s.words ≡ word_of (last_of all) ∷ []
  pub fits : (id : ℕ) (v : Watch) → get_elem? s.views id ≡ some v → Fits seat all id v

-- the pair of the new word was added to all that was published
abbrev pub Adds : Step ℕ → Me ℕ Watch → ℕ → Me ℕ Watch → Type 0
Adds s v found w = w ≡ (publisher_of (v.0.seen ++ pair_of s.first ∷ []), [])

-- a beginning of the list was seen, which begins with all that was seen or told before and ends with the pair found
abbrev pub Looks : Step ℕ → Me ℕ Watch → ℕ → Me ℕ Watch → Type 0
Looks s v found w =
    (w ≡ (reader_of w.0.seen, [])) × StartsWith w.0.seen v.0.seen × StartsWith w.0.seen v.0.told
    × IsRising w.0.seen × (0 < length w.0.seen) × (found ≡ word_of (last_of w.0.seen))

-- the publisher finds its last pair, and all that it was told of begins its list
abbrev pub Checks : Step ℕ → Me ℕ Watch → ℕ → Me ℕ Watch → Type 0
Checks s v found w = (w ≡ (publisher_of v.0.seen, [])) × StartsWith v.0.seen v.0.told × (found ≡ word_of (last_of v.0.seen))
