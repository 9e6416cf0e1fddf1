-- The variables of a state that a runtime knows.
use Rattle.std.specs.Prelude.{ℕ, Bool, codes, List}
use Rattle.std.specs.List.{list_any}
use Rattle.std.specs.Str.{bytes_eq}
use Rattle.own_book.specs.Parts.{parts_at}

-- the state has this variable with this value: `NAME=VALUE`
abbrev pub has_variable : List ℕ → List ℕ → Bool
has_variable variable state = list_any (λ part. bytes_eq part variable) (parts_at 59 state)

abbrev pub says_asleep : List ℕ → Bool
says_asleep state = has_variable (codes "asleep=yes") state

abbrev pub says_halted : List ℕ → Bool
says_halted state = has_variable (codes "halted=yes") state

abbrev pub says_leader : List ℕ → Bool
says_leader state = has_variable (codes "leader=yes") state
