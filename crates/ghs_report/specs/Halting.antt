-- Where the nodes of components have halted.
use Rattle.std.specs.Prelude.{◌≡◌, ◌≢◌, ◌⊎◌, ℕ, ◌≤◌, ◌<◌, ◌+◌, List, length, slice_index}
use Rattle.ghs_graph.specs.Components.{IsRoot}
use Rattle.ghs_graph.specs.Graph.{Shape}
use Rattle.ghs_protocol.specs.Marks.{HasHalted}
use Rattle.ghs_protocol.specs.Net.{Net}

-- a node of the component with this least node that has halted
pub record IsHaltedOf (g : Shape) (w : Net) (r node : ℕ) : Type 0 where
  pub some : 1 ≤ node
  pub within : node ≤ g.nodes
  pub root : IsRoot g.keys node r
  pub halted : HasHalted w node

-- of the nodes below m at the place of each component's least node one that has halted; 0 where none of them has
pub record AreHalted (g : Shape) (w : Net) (m : ℕ) (nodes : List ℕ) : Type 0 where
  pub places : length nodes ≡ g.nodes + 1
  pub each : (r : ℕ) → (slice_index nodes r ≡ 0) ⊎ IsHaltedOf g w r (slice_index nodes r)
  pub all : (v r : ℕ) → 1 ≤ v → v < m → v ≤ g.nodes → HasHalted w v → IsRoot g.keys v r → slice_index nodes r ≢ 0
