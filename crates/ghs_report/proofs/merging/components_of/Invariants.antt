use Rattle.ghs_report.specs.Components.{AreBelow, IsOfGraph}
use Rattle.ghs_report.proofs.merging.components_of.Given as goal

abbrev pub invariant-loop-v : goal.invariant-loop-v
invariant-loop-v l = AreBelow l.graph (IsOfGraph l.graph) l.v l.components.items
