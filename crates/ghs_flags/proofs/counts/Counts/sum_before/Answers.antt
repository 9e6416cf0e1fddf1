use Rattle.std.proofs.Common.{arith}
use Rattle.ghs_flags.proofs.Towers.{sum_zones, sum_regions, sum_groups}
use Rattle.ghs_flags.proofs.counts.Counts.sum_before.Goals as goal

pub sum_between-requires-clause-fits : goal.sum_between-requires-clause-fits
sum_between-requires-clause-fits c = let same = sum_zones c.self.invariant in rw c.deref.ensures.value (omega arith)

pub sum_between-requires-2-clause-fits : goal.sum_between-requires-2-clause-fits
sum_between-requires-2-clause-fits c = let same = sum_regions c.self.invariant in rw c.deref-2.ensures.value (omega arith)

pub sum_between-requires-3-clause-fits : goal.sum_between-requires-3-clause-fits
sum_between-requires-3-clause-fits c = let same = sum_groups c.self.invariant in rw c.deref-3.ensures.value (omega arith)
