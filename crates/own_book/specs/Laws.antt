-- What holds of the texts of books.
use Rattle.std.specs.Prelude.{ℕ, ◌≡◌, ◌⊎◌, List}
use Rattle.own_book.specs.Book.{HasEntries, HasFault}
use Rattle.own_book.specs.Entry.{Entry, answer_in}
use Rattle.own_book.specs.Line.{meaning, says}
use Rattle.own_book.specs.Text.{book_text, line_text}
use Rattle.own_book.specs.declared.fault.BookFault.{BookFault}

-- a line that says an answer is made of the question, ` = ` and the answer
abbrev pub IsMadeOf : List ℕ → Type 0
IsMadeOf line = (question answer : List ℕ) → meaning line ≡ says question answer → line ≡ line_text question answer

-- the text of these entries is a book with the same answers, and has no fault
pub record IsReadBack (entries : List Entry) : Type 0 where
  pub again : List Entry
  pub has : HasEntries (book_text entries) again
  pub same : (question : List ℕ) → answer_in again question ≡ answer_in entries question
  pub sound : (fault : BookFault) → HasFault (book_text entries) fault → ⊥

-- what was read from a text is read back from its own
abbrev pub ReadsBack : List ℕ → Type 0
ReadsBack text = (entries : List Entry) → HasEntries text entries → IsReadBack entries

-- a text has entries or a fault, and of both together only one
pub record IsOneReading (text : List ℕ) : Type 0 where
  pub some : ((entries : List Entry) × HasEntries text entries) ⊎ ((fault : BookFault) × HasFault text fault)
  pub one_book : (entries other : List Entry) → HasEntries text entries → HasEntries text other → entries ≡ other
  pub one_fault : (fault other : BookFault) → HasFault text fault → HasFault text other → fault ≡ other
  pub never_both : (entries : List Entry) (fault : BookFault) → HasEntries text entries → HasFault text fault → ⊥
