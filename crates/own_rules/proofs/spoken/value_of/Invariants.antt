use Rattle.std.proofs.Common.{◌≡◌, length}
use Rattle.own_book.specs.Parts.{parts_at}
use Rattle.own_rules.specs.Words.{value_among}
use Rattle.own_rules.proofs.spoken.value_of.Given as goal

abbrev pub invariant-loop-part : goal.invariant-loop-part
invariant-loop-part l = value_among l.name (parts_at 59 l.text) ≡ value_among l.name (parts_at 59 l.rest)

abbrev pub decreases-loop-part : goal.decreases-loop-part
decreases-loop-part l = length l.rest
