use Rattle.ghs_graph.proofs.Climbing.{IsClimbing}
use Rattle.ghs_graph.proofs.union_find.climb.Given as goal

abbrev pub invariant-loop-above : goal.invariant-loop-above
invariant-loop-above l = IsClimbing l.initial.up.items l.up.items l.x l.at l.above

abbrev pub decreases-loop-above : goal.decreases-loop-above
decreases-loop-above l = l.at
