-- What the machine sees of a graph: nodes 1 to count, each with its ports in key order.
use Rattle.std.specs.Prelude.{ℕ, ◌<◌, ◌≤◌, Bool, ◌&&◌, nat_lt, nat_le, List, length, slice_index_or}
use Rattle.ghs_graph.specs.declared.port.Port.{Port}
use Rattle.ghs_graph.specs.Graph.{Shape}
use Rattle.ghs_graph.specs.Ports.{ports_of, no_port}

pub record Network : Type 0 where
  pub count : ℕ
  pub ports : ℕ → List Port

-- the network of a graph
abbrev pub network_of : Shape → Network
network_of g = record { count = g.nodes; ports = ports_of g.keys }

abbrev pub port_at : Network → ℕ → ℕ → Port
port_at g v p = slice_index_or (g.ports v) p no_port

-- the node at the far end of a port, and that node's port on the same link
abbrev pub far : Network → ℕ → ℕ → ℕ
far g v p = (port_at g v p).far

abbrev pub far_port : Network → ℕ → ℕ → ℕ
far_port g v p = (port_at g v p).far_port

-- v is a node of the network
pub record InNetwork (g : Network) (v : ℕ) : Type 0 where
  pub some : 1 ≤ v
  pub node : v ≤ g.count

-- v is a node, and p a port of it
pub record At (g : Network) (v p : ℕ) : Type 0 where
  pub some : 1 ≤ v
  pub node : v ≤ g.count
  pub port : p < length (g.ports v)

-- the same, as tests
abbrev pub is_node : Network → ℕ → Bool
is_node g v = nat_lt 0 v && nat_le v g.count

abbrev pub is_port : Network → ℕ → ℕ → Bool
is_port g v p = is_node g v && nat_lt p (length (g.ports v))
