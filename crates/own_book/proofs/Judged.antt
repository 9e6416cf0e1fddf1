-- Each text is one book or has one fault.
use Rattle.std.proofs.Common.{◌⊎◌, ◌∙◌, List, length, refl, sym, inl, inr, Option, Some, None, ℕ}
use Rattle.ghs_lines.proofs.lemmas.Judging.{FirstBelow, Passes, first_below, first_fault, not_sound, same_fault}
use Rattle.own_book.specs.Book.{HaveFault, IsBook, entries_in, judge, of_line}
use Rattle.own_book.specs.Entry.{Entry}
use Rattle.own_book.specs.Laws.{IsOneReading}
use Rattle.own_book.specs.Line.{Line, meanings}
use Rattle.own_book.specs.declared.fault.BookFault.{BookFault}

-- a line that says nothing has no fault
passes : Passes judge
passes said = refl

pub never_both : (ls : List Line) (entries : List Entry) (fault : BookFault) → IsBook ls entries → HaveFault ls fault → ⊥
never_both ls entries fault book h = not_sound judge passes ls h.number h.of h.first book.sound

some_by : (ls : List Line) (o : Option BookFault) → FirstBelow judge of_line ls (length ls) o →
    ((entries : List Entry) × IsBook ls entries) ⊎ ((fault : BookFault) × HaveFault ls fault)
some_by ls None below = inl (entries_in ls, record { sound = below; all = refl })
some_by ls (Some fault) below = inr (fault, record { number = below.0; of = below.1; first = below.2; same = below.3 })

pub one_reading : (text : List ℕ) → IsOneReading text
one_reading text =
    let ls = meanings text in
    record {
      some = some_by ls (first_fault judge of_line ls (length ls)) (first_below judge of_line ls (length ls));
      one_book = λ entries other a b. a.all ∙ sym b.all;
      one_fault = λ fault other a b. a.same ∙ same_fault judge of_line ls a.number b.number a.of b.of a.first b.first ∙ sym b.same;
      never_both = λ entries fault a b. never_both ls entries fault a b;
    }
