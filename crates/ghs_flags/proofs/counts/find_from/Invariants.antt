use Rattle.std.proofs.Common.{◌≡◌, ◌+◌, ◌-◌, ◌<◌, length, take}
use Rattle.std.specs.List.{sum}
use Rattle.ghs_flags.proofs.counts.find_from.Given as goal

abbrev pub invariant-loop-at : goal.invariant-loop-at
invariant-loop-at l = record {
  within : l.at < length l.counts;
  left : sum (take l.at l.counts) + l.rest ≡ sum (take l.fn.start l.counts) + l.fn.rest;
}

abbrev pub decreases-loop-at : goal.decreases-loop-at
decreases-loop-at l = length l.counts - l.at
