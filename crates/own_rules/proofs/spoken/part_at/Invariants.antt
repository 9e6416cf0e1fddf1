use Rattle.std.proofs.Common.{◌≡◌, length, slice_get}
use Rattle.own_book.specs.Parts.{parts_at}
use Rattle.own_rules.proofs.spoken.part_at.Given as goal

abbrev pub invariant-loop-part : goal.invariant-loop-part
invariant-loop-part l = slice_get (parts_at 44 l.text) l.number ≡ slice_get (parts_at 44 l.rest) l.left

abbrev pub decreases-loop-part : goal.decreases-loop-part
decreases-loop-part l = length l.rest
