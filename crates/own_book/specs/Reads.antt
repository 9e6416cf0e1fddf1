-- What lines without a fault have said.
use Rattle.std.specs.Prelude.{◌≡◌, length, List}
use Rattle.own_book.specs.Book.{IsBook}
use Rattle.own_book.specs.Line.{Line}
use Rattle.own_book.specs.declared.book.Reading.{Reading}

-- these lines have been read, and none of them has a fault
pub record HasRead (lines : List Line) (reading : Reading) : Type 0 where
  pub book : IsBook lines reading.book
  pub counted : reading.lines ≡ length lines
