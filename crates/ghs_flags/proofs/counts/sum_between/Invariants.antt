use Rattle.std.proofs.Common.{◌≡◌, ◌+◌, take}
use Rattle.std.specs.List.{sum}
use Rattle.ghs_flags.proofs.counts.sum_between.Given as goal

abbrev pub invariant-loop-at : goal.invariant-loop-at
invariant-loop-at l = sum (take l.start l.counts) + l.total ≡ sum (take l.at l.counts)
