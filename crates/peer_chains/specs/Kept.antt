-- How the chains are kept: a number for each node, and the numbers that wait at each of its ports.
use Rattle.std.specs.Prelude.{◌≡◌, ℕ, Bool, ◌+◌, ◌<◌, ◌≤◌, List, [], ◌∷◌, length, slice_index, slice_index_or}
use Rattle.ghs_graph.specs.Graph.{Shape}
use Rattle.ghs_graph.specs.Ports.{ports_of}
use Rattle.peer_network.specs.declared.event.Event.{Event}
use Rattle.peer_network.specs.declared.event.Event.TheVariants.{Wake, Take}
use Rattle.peer_network.specs.Updates.{put_at}
use Rattle.peer_chains.specs.Chains.{Chains, behind}

-- by the numbers of nodes, of which 0 is none
pub record Kept : Type 0 where
  pub numbers : List ℕ
  pub rows : List (List (List ℕ))

abbrev pub row_of : Kept → ℕ → List (List ℕ)
row_of k v = slice_index_or k.rows v []

abbrev pub line_at : List (List ℕ) → ℕ → List ℕ
line_at row p = slice_index_or row p []

-- the chains that they are
unfoldable pub seen : Kept → Chains
seen k = record { node = λ v. slice_index k.numbers v; queue = λ v p. line_at (row_of k v) p }

-- what waits at port p of node v
abbrev pub line_of : List (List (List ℕ)) → ℕ → ℕ → List ℕ
line_of rows v p = line_at (slice_index_or rows v []) p

-- the rows with another line at port p of node v
pub record ChangesLine (old new : List (List (List ℕ))) (v p : ℕ) (line : List ℕ) : Type 0 where
  pub count : length new ≡ length old
  pub ports : (u : ℕ) → length (slice_index_or new u []) ≡ length (slice_index_or old u [])
  pub lines : (u q : ℕ) → line_of new u q ≡ put_at (line_of old) v p line u q

-- the line once its first number was taken, and deferred or not; or where there was none
abbrev pub stepped : Bool → List ℕ → List ℕ
stepped deferred [] = []
stepped deferred (t ∷ ts) = behind deferred t ts

-- node v is kept, with its port p
pub record HasPlace (k : Kept) (v p : ℕ) : Type 0 where
  pub node : v < length k.numbers
  pub row : v < length k.rows
  pub port : p < length (row_of k v)

-- where an event takes a message, its node is kept, with the port
abbrev pub HasPlaceOf : Kept → Event → Type 0
HasPlaceOf k (Wake v) = Unit {0}
HasPlaceOf k (Take v p) = HasPlace k v p

-- as many nodes, and as many ports of each
pub record SamePlaces (old new : Kept) : Type 0 where
  pub numbers : length new.numbers ≡ length old.numbers
  pub rows : length new.rows ≡ length old.rows
  pub ports : (v : ℕ) → length (row_of new v) ≡ length (row_of old v)

-- the nodes and the ports of a graph
pub record Fits (g : Shape) (k : Kept) : Type 0 where
  pub numbers : length k.numbers ≡ g.nodes + 1
  pub rows : length k.rows ≡ g.nodes + 1
  pub ports : (v : ℕ) → 1 ≤ v → v ≤ g.nodes → length (row_of k v) ≡ length (ports_of g.keys v)
