use Rattle.std.proofs.Common.{◌≡◌, length}
use Rattle.std.specs.List.{list_all}
use Rattle.own_book.specs.Parts.{parts_at}
use Rattle.own_book.specs.Words.{is_key}
use Rattle.own_book.proofs.question.are_keys.Given as goal

abbrev pub invariant-loop-key : goal.invariant-loop-key
invariant-loop-key l = list_all is_key (parts_at 32 l.keys) ≡ list_all is_key (parts_at 32 l.rest)

abbrev pub decreases-loop-key : goal.decreases-loop-key
decreases-loop-key l = length l.rest
