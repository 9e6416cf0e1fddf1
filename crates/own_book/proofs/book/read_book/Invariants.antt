use Rattle.std.proofs.Common.{◌≡◌, ◌≤◌, ◌+◌, ◌++◌, List, length}
use Rattle.own_book.specs.Line.{Line, meanings}
use Rattle.own_book.specs.Reads.{HasRead}
use Rattle.own_book.proofs.book.read_book.Given as goal

abbrev pub invariant-lines : goal.invariant-lines
invariant-lines l = record {
  read : (gone : List Line) × (meanings l.text ≡ gone ++ meanings l.rest) × HasRead gone l.reading;
  room : l.reading.lines + length l.rest ≤ length l.text;
}

abbrev pub decreases-lines : goal.decreases-lines
decreases-lines l = length l.rest
