-- What the fields of a graph keep.
use Rattle.std.specs.Prelude.{ℕ, List}
use Rattle.ghs_graph.specs.declared.port.Port.{Port}
use Rattle.ghs_graph.specs.Graph.{Shape, IsGraph}
use Rattle.ghs_graph.specs.Layout.{AreLaid}
use Rattle.ghs_graph.specs.Components.{AreRoots, HasComponents}

-- a graph with its ports laid out, the root of each node, and the number of components
pub record IsBuilt (g : Shape) (starts : List ℕ) (ports : List Port) (rs : List ℕ) (count : ℕ) : Type 0 where
  pub graph : IsGraph g
  pub laid : AreLaid g.nodes g.keys starts ports
  pub roots : AreRoots g rs
  pub components : HasComponents g count
