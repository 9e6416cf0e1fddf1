use Rattle.std.proofs.Common.{◌≡◌, ◌+◌, ◌-◌, ◌<◌, length}
use Rattle.ghs_flags.specs.Row.{ones_of}
use Rattle.ghs_flags.proofs.row.find_bit.Given as goal

abbrev pub invariant-loop-at : goal.invariant-loop-at
invariant-loop-at l = record {
  within : l.at < length l.words;
  left : ones_of l.at l.words + l.rest ≡ ones_of l.fn.start l.words + l.fn.rest;
}

abbrev pub decreases-loop-at : goal.decreases-loop-at
decreases-loop-at l = length l.words - l.at
