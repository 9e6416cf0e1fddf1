use Rattle.std.proofs.Common.{◌-◌}
use Rattle.gather_node.proofs.Looking.{IsFrom}
use Rattle.gather_node.proofs.forest.has_in_order.Given as goal

abbrev pub invariant-loop-low : goal.invariant-loop-low
invariant-loop-low l = IsFrom l.links l.key l.low l.high

abbrev pub decreases-loop-low : goal.decreases-loop-low
decreases-loop-low l = l.high - l.low
