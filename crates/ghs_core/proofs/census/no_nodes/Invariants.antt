use Rattle.ghs_core.proofs.Counting.{AreBlank}
use Rattle.ghs_core.proofs.census.no_nodes.Given as goal

abbrev pub invariant-loop-least : goal.invariant-loop-least
invariant-loop-least l = AreBlank l.least l.rows.items
