use Rattle.ghs_graph.proofs.Filling.{IsFilled}
use Rattle.ghs_graph.proofs.layout.fill_from.Given as goal

abbrev pub invariant-loop-i : goal.invariant-loop-i
invariant-loop-i l = IsFilled l.nodes l.keys l.starts l.from l.to l.i l.ports.items
