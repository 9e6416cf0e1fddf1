use Rattle.ghs_graph.proofs.Climbing.{AreSettled}
use Rattle.ghs_graph.proofs.union_find.settle.Given as goal

abbrev pub invariant-loop-x : goal.invariant-loop-x
invariant-loop-x l = AreSettled l.initial.up.items l.up.items l.x
