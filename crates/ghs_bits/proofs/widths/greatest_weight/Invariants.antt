use Rattle.std.proofs.Common.{◌≡◌, take}
use Rattle.ghs_bits.specs.Length.{greatest_weight}
use Rattle.ghs_bits.proofs.widths.greatest_weight.Given as goal

abbrev pub invariant-loop-key : goal.invariant-loop-key
invariant-loop-key l = l.greatest ≡ greatest_weight (take l.key-index l.keys)
