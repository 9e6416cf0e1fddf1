-- Channels that are marked Branch at one end, or at both.
use Rattle.std.specs.Prelude.{Option, Some, None, ◌≡◌, ℕ, ◌+◌, ◌-◌, ◌≤◌, ◌<◌, Bool, ◌&&◌, ◌||◌, ◌↔◌, List, length, slice_index, slice_index_or}
use Rattle.std.specs.List.{Contains}
use Rattle.std.specs.List.Sorted.{IsStrictlyIncreasing}
use Rattle.ghs_graph.specs.declared.key.Key.{Key}
use Rattle.ghs_graph.specs.Graph.{Shape, IsGraph}
use Rattle.ghs_graph.specs.Classes.{AreTogether}
use Rattle.ghs_graph.specs.Links.{IsRising, Joined, links, InTree}
use Rattle.ghs_graph.specs.Ports.{ports_of, port_number}
use Rattle.ghs_node.specs.NodeState.{NodeState, mark_at, degree}
use Rattle.ghs_node.specs.Words.{is_branch}
use Rattle.peer_network.specs.Network.{Network, network_of}
use Rattle.ghs_protocol.specs.Net.{Net}
use Rattle.ghs_protocol.specs.Marks.{IsBranchLink, IsJoinedLink, InOneFragment}
use Rattle.ghs_core.specs.declared.marked.Ends.{Ends}
use Rattle.ghs_core.specs.declared.marked.Ends.TheVariants.{One, Both}
use Rattle.ghs_core.specs.Kept.{no_node}

abbrev pub are_wanted : Ends → Bool → Bool → Bool
are_wanted One a b = a || b
are_wanted Both a b = a && b

abbrev pub node_in : List NodeState → ℕ → NodeState
node_in nodes v = slice_index_or nodes (v - 1) no_node

-- node v has marked the link Branch
abbrev pub has_branch : List Key → List NodeState → ℕ → Key → Bool
has_branch ks nodes v k = is_branch (mark_at (node_in nodes v) (port_number ks v k))

abbrev pub is_wanted : Ends → List Key → List NodeState → Key → Bool
is_wanted e ks nodes k = are_wanted e (has_branch ks nodes k.a k) (has_branch ks nodes k.b k)

-- the nodes have the ports of the graph
pub record HavePorts (g : Shape) (nodes : List NodeState) : Type 0 where
  pub graph : IsGraph g
  pub count : length nodes ≡ g.nodes
  pub ports : (v : ℕ) → 1 ≤ v → v ≤ g.nodes → degree (node_in nodes v) ≡ length (ports_of g.keys v)

-- all Branch links, in key order
pub record AreBranches (g : Network) (w : Net) (ks : List Key) : Type 0 where
  pub rising : IsRising ks
  pub all : (k : Key) → Contains ks k ↔ IsBranchLink g w k

-- u is a node of the fragment of node v
abbrev pub IsInFragment : Network → Net → ℕ → ℕ → Type 0
IsInFragment g w v u = (1 ≤ u) × (u ≤ g.count) × InOneFragment g w v u

-- the nodes of the fragment of node v, rising
pub record IsFragment (g : Network) (w : Net) (v : ℕ) (us : List ℕ) : Type 0 where
  pub rising : IsStrictlyIncreasing us
  pub all : (u : ℕ) → Contains us u ↔ IsInFragment g w v u

-- r is the root of node v: a node no greater, and its own root
pub record IsRootOf (rs : List ℕ) (v r : ℕ) : Type 0 where
  pub is : slice_index rs v ≡ r
  pub some : 1 ≤ r
  pub low : r ≤ v
  pub own : slice_index rs r ≡ r

-- nodes have the same root exactly where they lie in one fragment
pub record TellFragments (g : Network) (w : Net) (rs : List ℕ) : Type 0 where
  pub count : length rs ≡ g.count + 1
  pub told : (v u : ℕ) → 1 ≤ v → v ≤ g.count → 1 ≤ u → u ≤ g.count → (AreTogether rs v u ↔ InOneFragment g w v u)
  pub root : (v : ℕ) → 1 ≤ v → v ≤ g.count → IsRootOf rs v (slice_index rs v)

-- of the numbers from 1 to below a limit those that have this root, rising
pub record HaveRoot (rs : List ℕ) (limit root : ℕ) (us : List ℕ) : Type 0 where
  pub rising : IsStrictlyIncreasing us
  pub has : (u : ℕ) → Contains us u → (1 ≤ u) × (u < limit) × (slice_index rs u ≡ root)
  pub all : (u : ℕ) → 1 ≤ u → u < limit → slice_index rs u ≡ root → Contains us u

-- each key is that of a link of the minimum spanning tree
abbrev pub AreInTree : List Key → List Key → Type 0
AreInTree ks some = (k : Key) → Contains some k → InTree ks k

-- in the component of node v the Branch links are the tree's, and Branch at both ends
abbrev pub IsExactAt : Shape → Net → ℕ → Type 0
IsExactAt g w v =
    (k : Key) → Contains g.keys k → Joined (links g.keys) v k.a →
    (InTree g.keys k → IsJoinedLink (network_of g) w k) × (IsBranchLink (network_of g) w k → InTree g.keys k × IsJoinedLink (network_of g) w k)

-- in each component
abbrev pub IsExact : Shape → Net → Type 0
IsExact g w = (k : Key) → (IsBranchLink (network_of g) w k ↔ InTree g.keys k) × (InTree g.keys k → IsJoinedLink (network_of g) w k)

-- where a node is named, it is so there
abbrev pub IsExactWhere : Shape → Net → Option ℕ → Type 0
IsExactWhere g w None = Unit {0}
IsExactWhere g w (Some v) = IsExactAt g w v
