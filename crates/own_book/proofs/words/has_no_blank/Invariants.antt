use Rattle.std.proofs.Common.{◌≡◌, length}
use Rattle.own_book.specs.Words.{has_no_blank}
use Rattle.own_book.proofs.words.has_no_blank.Given as goal

abbrev pub invariant-loop-byte : goal.invariant-loop-byte
invariant-loop-byte l = has_no_blank l.text ≡ has_no_blank l.rest

abbrev pub decreases-loop-byte : goal.decreases-loop-byte
decreases-loop-byte l = length l.rest
