-- Links by their marks, fragments, and the halt.
use Rattle.std.specs.Prelude.{◌≡◌, ℕ, ◌≤◌, true}
use Rattle.ghs_graph.specs.declared.key.Key.{Key}
use Rattle.ghs_graph.specs.Graph.{Shape}
use Rattle.ghs_graph.specs.Links.{Joined, links}
use Rattle.ghs_node.specs.declared.mark.Mark.TheVariants.{Branch, Rejected}
use Rattle.ghs_node.specs.NodeState.{mark_at}
use Rattle.peer_network.specs.Network.{Network, At, port_at, far, far_port}
use Rattle.ghs_protocol.specs.Net.{Net}

-- the link with this key is Branch at one end at least
abbrev pub IsBranchLink : Network → Net → Key → Type 0
IsBranchLink g w k = (v p : ℕ) × At g v p × ((port_at g v p).key ≡ k) × (mark_at (w.node v) p ≡ Branch)

-- the link with this key is Rejected at one end at least
abbrev pub IsRejectedLink : Network → Net → Key → Type 0
IsRejectedLink g w k = (v p : ℕ) × At g v p × ((port_at g v p).key ≡ k) × (mark_at (w.node v) p ≡ Rejected)

-- the link at port p of v is Branch at both ends
abbrev pub IsJoined : Network → Net → ℕ → ℕ → Type 0
IsJoined g w v p = (mark_at (w.node v) p ≡ Branch) × (mark_at (w.node (far g v p)) (far_port g v p) ≡ Branch)

-- the link with this key is Branch at both ends
abbrev pub IsJoinedLink : Network → Net → Key → Type 0
IsJoinedLink g w k = (v p : ℕ) × At g v p × ((port_at g v p).key ≡ k) × IsJoined g w v p

-- u is v, or ports in S lead from v to u
pub data Leads (g : Network) (S : ℕ → ℕ → Type 0) : ℕ → ℕ → Type 0 where
  Here : {v : ℕ} → Leads g S v v
  Over : {v u : ℕ} (p : ℕ) → At g v p → S v p → Leads g S (far g v p) u → Leads g S v u

-- u and v lie in one fragment: links that are Branch at both ends join them
abbrev pub InOneFragment : Network → Net → ℕ → ℕ → Type 0
InOneFragment g w v u = Leads g (IsJoined g w) v u

-- node v has halted, as a core node
abbrev pub HasHalted : Net → ℕ → Type 0
HasHalted w v = (w.node v).head.halted ≡ true

-- the run has ended: with each node a core node is joined that has halted
abbrev pub HasEnded : Shape → Net → Type 0
HasEnded g w = (v : ℕ) → 1 ≤ v → v ≤ g.nodes → (u : ℕ) × (1 ≤ u) × (u ≤ g.nodes) × Joined (links g.keys) v u × HasHalted w u
