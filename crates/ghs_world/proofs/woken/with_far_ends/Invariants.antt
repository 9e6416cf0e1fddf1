use Rattle.std.proofs.Common.{◌≡◌, take}
use Rattle.peer_network.specs.Network.{network_of}
use Rattle.ghs_world.specs.Steps.{touched}
use Rattle.ghs_world.proofs.woken.with_far_ends.Given as goal

abbrev pub invariant-loop-port : goal.invariant-loop-port
invariant-loop-port l = l.nodes.items ≡ touched (network_of l.graph) l.v (take l.port-index l.sends)
