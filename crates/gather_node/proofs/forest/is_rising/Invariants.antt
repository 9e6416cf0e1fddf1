use Rattle.std.proofs.Common.{take}
use Rattle.ghs_graph.specs.Links.{IsRising}
use Rattle.gather_node.proofs.forest.is_rising.Given as goal

abbrev pub invariant-loop-place : goal.invariant-loop-place
invariant-loop-place l = IsRising (take l.place l.keys)
