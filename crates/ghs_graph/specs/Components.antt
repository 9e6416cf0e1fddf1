-- Components: the nodes that links join with one another.
use Rattle.std.specs.Prelude.{◌≡◌, ℕ, ◌≤◌, ◌<◌, ◌+◌, List, length, slice_index}
use Rattle.std.specs.List.{AllPairs, Contains}
use Rattle.ghs_graph.specs.declared.key.Key.{Key}
use Rattle.ghs_graph.specs.Links.{Joined, links}
use Rattle.ghs_graph.specs.Graph.{Shape}

-- r is the root of v: the least node that the links join with it
pub record IsRoot (ks : List Key) (v r : ℕ) : Type 0 where
  pub joined : Joined (links ks) v r
  pub least : (u : ℕ) → Joined (links ks) v u → r ≤ u

-- the number of components: the number of nodes that are the least in theirs
pub record HasComponents (g : Shape) (count : ℕ) : Type 0 where
  pub leasts : List ℕ
  pub rising : AllPairs (λ u v. u < v) leasts
  pub has : (v : ℕ) → Contains leasts v → (1 ≤ v) × (v ≤ g.nodes) × IsRoot g.keys v v
  pub all : (v : ℕ) → 1 ≤ v → v ≤ g.nodes → IsRoot g.keys v v → Contains leasts v
  pub number : length leasts ≡ count

-- each node's root stands at the node's place
pub record AreRoots (g : Shape) (roots : List ℕ) : Type 0 where
  pub places : length roots ≡ g.nodes + 1
  pub each : (v : ℕ) → 1 ≤ v → v ≤ g.nodes → IsRoot g.keys v (slice_index roots v)
