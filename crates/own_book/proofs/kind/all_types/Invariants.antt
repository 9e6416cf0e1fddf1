use Rattle.std.proofs.Common.{◌≡◌, length}
use Rattle.std.specs.List.{list_all}
use Rattle.own_book.specs.Answer.{is_type}
use Rattle.own_book.specs.Parts.{parts_at}
use Rattle.own_book.proofs.kind.all_types.Given as goal

abbrev pub invariant-loop-field : goal.invariant-loop-field
invariant-loop-field l = list_all is_type (parts_at 44 l.types) ≡ list_all is_type (parts_at 44 l.rest)

abbrev pub decreases-loop-field : goal.decreases-loop-field
decreases-loop-field l = length l.rest
