use Rattle.std.proofs.Common.{◌≡◌, length}
use Rattle.peer_network.specs.Network.{network_of}
use Rattle.peer_index.specs.Places.{events_to}
use Rattle.peer_index.specs.Index.{AreBases}
use Rattle.peer_index.proofs.bases.lay_bases.Given as goal

abbrev pub invariant-loop-i : goal.invariant-loop-i
invariant-loop-i l = AreBases (network_of l.graph) l.i l.bases.items × (l.end ≡ length (events_to (network_of l.graph) l.i))
