use Rattle.std.proofs.Common.{◌≡◌, ◌+◌, ◌/◌, ◌%◌, slice_index}
use Rattle.ghs_flags.specs.Word.{ones_below}
use Rattle.ghs_flags.specs.Row.{ones_of}
use Rattle.ghs_flags.proofs.row.count_from.Given as goal

abbrev pub invariant-loop-at : goal.invariant-loop-at
invariant-loop-at l = ones_of l.start l.words + l.total ≡ ones_of l.at l.words + ones_below (slice_index l.words (l.place / 64)) (l.place % 64)
