-- Graphs.
use Rattle.std.specs.Prelude.{ℕ, ◌≤◌, List, length}
use Rattle.std.specs.List.{range_with_len}
pub use Rattle.ghs_gr.specs.declared.raw_graph.TheConstants.{ARC_LIMIT, NODE_LIMIT}
use Rattle.ghs_graph.specs.declared.key.Key.{Key}
use Rattle.ghs_graph.specs.Links.{IsRising, AreAmong}

-- what a graph is: its number of nodes and the keys of its links
pub record Shape : Type 0 where
  pub nodes : ℕ
  pub keys : List Key

-- the nodes, which are numbered from 1
abbrev pub nodes_of : Shape → List ℕ
nodes_of g = range_with_len 1 g.nodes

-- nodes and links within the limits, and the keys rising
pub record IsGraph (g : Shape) : Type 0 where
  pub some : 1 ≤ g.nodes
  pub nodes : g.nodes ≤ NODE_LIMIT
  pub links : length g.keys ≤ ARC_LIMIT
  pub among : AreAmong g.nodes g.keys
  pub rising : IsRising g.keys
