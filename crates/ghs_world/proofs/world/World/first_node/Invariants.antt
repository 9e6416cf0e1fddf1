use Rattle.std.proofs.Common.{◌+◌, ◌-◌}
use Rattle.ghs_world.proofs.Nodes.{IsPast}
use Rattle.ghs_world.proofs.world.World.first_node.Given as goal

abbrev pub invariant-loop-from : goal.invariant-loop-from
invariant-loop-from l = IsPast l.self l.low l.from

abbrev pub decreases-loop-from : goal.decreases-loop-from
decreases-loop-from l = l.self.net.graph.nodes + 1 - l.from
