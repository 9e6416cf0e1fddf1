-- What a book is, and when a text is one.
use Rattle.std.specs.Prelude.{ℕ, ◌≡◌, ◌+◌, cond, length, nat_le, List, [], ◌∷◌, Option, Some, None}
use Rattle.std.specs.Str.{bytes_eq}
use Rattle.ghs_lines.specs.Judging.{AreSound, IsFirstFault, Judge}
use Rattle.own_book.specs.Entry.{Entry, entry, entry_for, others}
use Rattle.own_book.specs.Line.{Line, bad, meanings, passed, says}
use Rattle.own_book.specs.declared.fault.BookFault.{BookFault}
use Rattle.own_book.specs.declared.fault.BookFault.TheVariants as book
use Rattle.own_book.specs.declared.fault.LineFault.{LineFault}
use Rattle.own_book.specs.declared.fault.LineFault.TheVariants.{BadLine, Number, TooLong, TooMany, Wavers}
use Rattle.own_book.specs.declared.book.TheConstants.{LINES}

-- the entries of lines, the first of which has this number: for each question that of the first line that answers it
abbrev pub entries_from : ℕ → List Line → List Entry
entries_from number [] = []
entries_from number (passed ∷ more) = entries_from (number + 1) more
entries_from number (bad fault ∷ more) = entries_from (number + 1) more
entries_from number (says question answer ∷ more) =
    entry question number answer ∷ others question (entries_from (number + 1) more)

abbrev pub entries_in : List Line → List Entry
entries_in lines = entries_from 1 lines

-- another answer to the same question stands in an earlier line
abbrev pub wavers : List ℕ → Option Entry → Option LineFault
wavers answer None = None
wavers answer (Some first) = cond (bytes_eq first.answer answer) None (Some (Wavers first.number))

-- the fault of a line by itself, and otherwise that it wavers
abbrev pub own_fault : List Line → Line → Option LineFault
own_fault earlier passed = None
own_fault earlier (bad fault) = Some fault
own_fault earlier (says question answer) = wavers answer (entry_for (entries_in earlier) question)

-- the first fault of a line behind these earlier ones
abbrev pub line_fault : List Line → Line → Option LineFault
line_fault earlier passed = None
line_fault earlier (bad fault) = cond (nat_le LINES (length earlier)) (Some TooMany) (own_fault earlier (bad fault))
line_fault earlier (says question answer) = cond (nat_le LINES (length earlier)) (Some TooMany) (own_fault earlier (says question answer))

-- how the lines of a book are judged
abbrev pub judge : Judge Line (List Line) LineFault
judge = record { said_in = λ lines. lines; line_fault = line_fault; passed = passed }

-- sound lines, and their entries
pub record IsBook (lines : List Line) (entries : List Entry) : Type 0 where
  pub sound : AreSound judge lines
  pub all : entries ≡ entries_in lines

-- a line's fault as a fault of the text
abbrev pub of_line : LineFault → ℕ → BookFault
of_line TooMany number = book.TooMany
of_line TooLong number = book.TooLong number
of_line BadLine number = book.BadLine number
of_line Number number = book.Number number
of_line (Wavers first) number = book.Wavers first number

-- the lines are those of no book, for this fault: the first fault of the first faulty line
pub record HaveFault (lines : List Line) (fault : BookFault) : Type 0 where
  pub number : ℕ
  pub of : LineFault
  pub first : IsFirstFault judge lines number of
  pub same : fault ≡ of_line of number

-- the text is that of a book with these entries
abbrev pub HasEntries : List ℕ → List Entry → Type 0
HasEntries text entries = IsBook (meanings text) entries

-- the text is that of no book, for this fault
abbrev pub HasFault : List ℕ → BookFault → Type 0
HasFault text fault = HaveFault (meanings text) fault
