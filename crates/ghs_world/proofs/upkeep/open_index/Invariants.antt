use Rattle.std.proofs.Common.{◌+◌, ◌-◌}
use Rattle.peer_network.specs.Network.{network_of}
use Rattle.peer_index.specs.Index.{IsIndexBut}
use Rattle.ghs_world.specs.Upkeep.{lawful_first}
use Rattle.ghs_world.proofs.Changing.{wakes}
use Rattle.ghs_world.proofs.upkeep.open_index.Given as goal

abbrev pub invariant-loop-v : goal.invariant-loop-v
invariant-loop-v l = IsIndexBut (network_of l.graph) (lawful_first l.graph l.wake) (wakes l.v (l.graph.nodes + 1 - l.v)) l.index
