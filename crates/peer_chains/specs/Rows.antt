-- The lines of all nodes in one list, and where those of each node begin.
use Rattle.std.specs.Prelude.{◌≡◌, ℕ, ◌+◌, ◌-◌, ◌<◌, ◌≤◌, List, [], ◌∷◌, drop, length, slice_index, take}
use Rattle.ghs_graph.specs.Graph.{Shape}
use Rattle.ghs_graph.specs.Ports.{ports_of}

-- the lines from one place up to another
abbrev pub part : List (List ℕ) → ℕ → ℕ → List (List ℕ)
part lines from to = take (to - from) (drop from lines)

abbrev pub rows_on : ℕ → List ℕ → List (List ℕ) → List (List (List ℕ))
rows_on base [] lines = []
rows_on base (next ∷ bases) lines = part lines base next ∷ rows_on next bases lines

-- the lines of each node, from its base to the next; the last base is of no node
unfoldable pub rows_from : List ℕ → List (List ℕ) → List (List (List ℕ))
rows_from [] lines = []
rows_from (base ∷ bases) lines = rows_on base bases lines

-- none is less than one before it
pub record AreRising (bases : List ℕ) : Type 0 where
  pub rise : (u v : ℕ) → u ≤ v → v < length bases → slice_index bases u ≤ slice_index bases v

-- Where the lines of the nodes 1 to n begin, one for each port, and where they end. The number 0 is no node.
pub record AreBases (g : Shape) (n : ℕ) (bases : List ℕ) : Type 0 where
  pub count : length bases ≡ n + 2
  pub rising : AreRising bases
  pub ports : (v : ℕ) → 1 ≤ v → v ≤ n → slice_index bases (v + 1) ≡ slice_index bases v + length (ports_of g.keys v)
