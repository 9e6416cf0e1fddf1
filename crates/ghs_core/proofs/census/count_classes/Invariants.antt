use Rattle.ghs_core.specs.Census.{CountClasses, level_in}
use Rattle.ghs_core.proofs.census.count_classes.Given as goal

abbrev pub invariant-loop-v : goal.invariant-loop-v
invariant-loop-v l = CountClasses l.roots (level_in l.nodes) l.v l.rows.items
