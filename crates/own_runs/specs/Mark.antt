-- The mark of a book, by which a stored run knows it again.
use Rattle.std.specs.Prelude.{◌≡◌, ◌≢◌, ◌<◌, ◌≤◌, length, take, List}
use Rattle.own_book.specs.Entry.{Entry}
use Rattle.own_runs.specs.Sum.{sum_text}
use Rattle.own_rules.specs.Texts.{name_of}
use Rattle.own_runs.specs.declared.mark.Misfit.{Misfit}
use Rattle.own_runs.specs.declared.mark.Misfit.TheVariants.{Shorter, Another}
use Rattle.peer_trace.specs.Mark.{Mark, marked}

-- the name that its greeting gives the protocol, and all its entries
abbrev pub mark_of : List Entry → Mark
mark_of book = marked (name_of book) (length book) (sum_text book)

-- the book has so many entries at least, and the first of them have this sum
pub record Fits (book : List Entry) (mark : Mark) : Type 0 where
  pub many : mark.entries ≤ length book
  pub same : sum_text (take mark.entries book) ≡ mark.sum

-- why a book doesn't fit a mark
abbrev pub Misfits : List Entry → Mark → Misfit → Type 0
Misfits book mark Shorter = length book < mark.entries
Misfits book mark Another = (mark.entries ≤ length book) × (sum_text (take mark.entries book) ≢ mark.sum)
