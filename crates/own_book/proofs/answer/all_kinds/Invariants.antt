use Rattle.std.proofs.Common.{◌≡◌, length}
use Rattle.std.specs.List.{list_all}
use Rattle.own_book.specs.Answer.{is_kind}
use Rattle.own_book.specs.Parts.{parts_at}
use Rattle.own_book.proofs.answer.all_kinds.Given as goal

abbrev pub invariant-loop-kind : goal.invariant-loop-kind
invariant-loop-kind l = list_all is_kind (parts_at 32 l.kinds) ≡ list_all is_kind (parts_at 32 l.rest)

abbrev pub decreases-loop-kind : goal.decreases-loop-kind
decreases-loop-kind l = length l.rest
