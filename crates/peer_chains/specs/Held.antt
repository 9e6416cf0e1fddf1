-- What a line of numbers is kept as.
use Rattle.std.specs.Prelude.{ℕ, List, [], ◌∷◌}
use Rattle.peer_chains.specs.declared.line.Held.{Held}
use Rattle.peer_chains.specs.declared.line.Held.TheVariants.{Nothing, One, Two, Many}

-- the numbers, the first come first
abbrev pub numbers_in : Held → List ℕ
numbers_in Nothing = []
numbers_in (One n) = n ∷ []
numbers_in (Two n m) = n ∷ m ∷ []
numbers_in (Many more) = more.value.items
