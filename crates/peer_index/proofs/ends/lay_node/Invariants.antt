use Rattle.std.proofs.Common.{◌-◌, ◌++◌}
use Rattle.peer_network.specs.Network.{network_of}
use Rattle.peer_index.specs.Places.{events_at, events_to}
use Rattle.peer_index.specs.Index.{AreEnds}
use Rattle.peer_index.proofs.ends.lay_node.Given as goal

abbrev pub invariant-loop-port : goal.invariant-loop-port
invariant-loop-port l =
    AreEnds (network_of l.graph) l.bases (events_to (network_of l.graph) (l.v - 1) ++ events_at l.v l.port-index) l.ends.items
