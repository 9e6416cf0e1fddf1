-- What the state of a node of a network is.
use Rattle.std.specs.Prelude.{◌≡◌, ℕ, map}
use Rattle.ghs_graph.specs.declared.port.Port.{Port}
use Rattle.ghs_node.specs.NodeState.{NodeState, IsNode}
use Rattle.peer_network.specs.Network.{Network}

-- the state of node v: its number, the keys of its ports, and what every node keeps
pub record IsNodeOf (g : Network) (v : ℕ) (n : NodeState) : Type 0 where
  pub number : n.number ≡ v
  pub keys : n.keys ≡ map (λ (p : Port). p.key) (g.ports v)
  pub node : IsNode n
