use Rattle.std.proofs.Common.{◌-◌}
use Rattle.peer_network.specs.Network.{network_of}
use Rattle.peer_index.specs.Places.{events_to}
use Rattle.peer_index.specs.Index.{AreEnds}
use Rattle.peer_index.proofs.ends.lay_ends.Given as goal

abbrev pub invariant-loop-v : goal.invariant-loop-v
invariant-loop-v l = AreEnds (network_of l.graph) l.bases (events_to (network_of l.graph) (l.v - 1)) l.ends.items
