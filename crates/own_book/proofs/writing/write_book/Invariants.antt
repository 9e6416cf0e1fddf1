use Rattle.std.proofs.Common.{◌≡◌, take}
use Rattle.own_book.specs.Text.{book_text}
use Rattle.own_book.proofs.writing.write_book.Given as goal

abbrev pub invariant-loop-index : goal.invariant-loop-index
invariant-loop-index l = l.text.items ≡ book_text (take l.index l.book)
