-- Links by their marks, and the halt.
use Rattle.std.specs.Prelude.{◌≡◌, ℕ, true}
use Rattle.ghs_graph.specs.declared.key.Key.{Key}
use Rattle.peer_network.specs.Network.{Network, At, port_at, far, far_port}
use Rattle.peer_machine.specs.Net.{Net}
use Rattle.boruvka_node.specs.declared.mark.Mark.{Mark}
use Rattle.boruvka_node.specs.declared.mark.Mark.TheVariants.{Branch, Inside}
use Rattle.boruvka_node.specs.declared.message.Message.{Message}
use Rattle.boruvka_node.specs.State.{State, mark_at}

-- the link with this key has the mark at one end at least
abbrev pub HasMark : Network → Net State Message → Mark → Key → Type 0
HasMark g w m k = (v p : ℕ) × At g v p × ((port_at g v p).key ≡ k) × (mark_at (w.node v) p ≡ m)

-- it is Branch at one end at least
abbrev pub IsBranchLink : Network → Net State Message → Key → Type 0
IsBranchLink g w k = HasMark g w Branch k

-- it is Inside at one end at least
abbrev pub IsInsideLink : Network → Net State Message → Key → Type 0
IsInsideLink g w k = HasMark g w Inside k

-- the link with this key is Branch at both ends
abbrev pub IsJoinedLink : Network → Net State Message → Key → Type 0
IsJoinedLink g w k =
    (v p : ℕ) × At g v p × ((port_at g v p).key ≡ k) × (mark_at (w.node v) p ≡ Branch) × (mark_at (w.node (far g v p)) (far_port g v p) ≡ Branch)

-- node v has halted
abbrev pub HasHalted : Net State Message → ℕ → Type 0
HasHalted w v = (w.node v).head.halted ≡ true
