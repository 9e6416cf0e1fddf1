use Rattle.std.proofs.Common.{◌≡◌, length}
use Rattle.std.specs.List.{list_all}
use Rattle.own_book.specs.Parts.{parts_at}
use Rattle.own_book.specs.Words.{is_variable}
use Rattle.own_book.proofs.words.are_variables.Given as goal

abbrev pub invariant-loop-part : goal.invariant-loop-part
invariant-loop-part l = list_all is_variable (parts_at 59 l.field) ≡ list_all is_variable (parts_at 59 l.rest)

abbrev pub decreases-loop-part : goal.decreases-loop-part
decreases-loop-part l = length l.rest
