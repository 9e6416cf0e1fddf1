use Rattle.std.proofs.Common.{take}
use Rattle.own_book.specs.Text.{book_text}
use Rattle.sha2.specs.Hashers.{Holds256}
use Rattle.own_runs.proofs.sum.sum_of.Given as goal

abbrev pub invariant-loop-index : goal.invariant-loop-index
invariant-loop-index l = Holds256 l.hasher (book_text (take l.index l.book))
