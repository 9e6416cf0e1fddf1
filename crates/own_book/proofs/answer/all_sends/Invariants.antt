use Rattle.std.proofs.Common.{◌≡◌, length}
use Rattle.std.specs.List.{list_all}
use Rattle.own_book.specs.Answer.{is_send}
use Rattle.own_book.specs.Parts.{parts_at}
use Rattle.own_book.proofs.answer.all_sends.Given as goal

abbrev pub invariant-loop-send : goal.invariant-loop-send
invariant-loop-send l = list_all is_send (parts_at 32 l.sends) ≡ list_all is_send (parts_at 32 l.rest)

abbrev pub decreases-loop-send : goal.decreases-loop-send
decreases-loop-send l = length l.rest
