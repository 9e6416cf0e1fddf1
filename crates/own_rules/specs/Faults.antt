-- What is said of nodes that have stopped by an answer.
use Rattle.std.specs.Prelude.{ℕ, codes, decimal, ◌++◌, List, [], Option, Some, None}
use Rattle.std.specs.List.{flat_map}
use Rattle.ghs_graph.specs.Graph.{Shape}
use Rattle.own_book.specs.Answer.{Saying, greets, gives_up, saying}
use Rattle.own_book.specs.Entry.{Entry, told_in}
use Rattle.own_book.specs.declared.question.Asked.TheVariants.{Greeting}
use Rattle.own_rules.specs.Stops.{question_of}
use Rattle.own_rules.specs.Texts.{Text}
use Rattle.own_rules.specs.Words.{fault_word}
use Rattle.own_rules.specs.declared.node.Lookup.{Lookup}
use Rattle.own_rules.specs.declared.node.Reason.{Reason}
use Rattle.own_rules.specs.declared.node.Reason.TheVariants.{Unanswered, Fails, Spent}
use Rattle.own_rules.specs.declared.node.Stop.{Stop}

unfoldable pub counted : Text → ℕ → Text → Text
counted front number back = front ++ decimal number ++ back

unfoldable pub labelled : Text → Text → Text
labelled label text = label ++ text ++ codes "\n"

-- a question, with what the book says to it and in which line
unfoldable pub exchange : Text → ℕ × Text → Text
exchange question told =
    labelled (codes "question: ") question ++ labelled (codes "answer: ") told.1 ++ counted (codes "line of the book: ") told.0 (codes "\n")

abbrev pub exchanged : Text → Option (ℕ × Text) → Text
exchanged question None = []
exchanged question (Some told) = exchange question told

-- `node V: WORD`
unfoldable pub fault_line : ℕ → Text → Text
fault_line v word = codes "node " ++ decimal v ++ codes ": " ++ word ++ codes "\n"

-- an answer to the question after the greeting that names no kinds
abbrev pub misgreeted : ℕ × Text → Option Saying → Text
misgreeted told (Some (greets name kinds)) = []
misgreeted told (Some (gives_up why)) = codes "GIVES_UP\n" ++ exchange (codes "own 1") told
misgreeted told other = codes "GARBLED\n" ++ exchange (codes "own 1") told

abbrev pub greeting_fault : Option (ℕ × Text) → Text
greeting_fault None = []
greeting_fault (Some told) = misgreeted told (saying Greeting told.1)

module _ (book : List Entry) (g : Shape) where
  -- the fault of node v, and what the book says to the question at which it has stopped
  abbrev pub fault_by : ℕ → Option Lookup → Text → Text
  fault_by v asked word = fault_line v word ++ exchanged (question_of book g v asked) (told_in book (question_of book g v asked))

  abbrev pub fault_of : ℕ → Option Lookup → Reason → Text
  fault_of v asked Unanswered = []
  fault_of v asked (Fails fault) = fault_by v asked (fault_word fault)
  fault_of v asked Spent = fault_by v asked (codes "SPENT")

  abbrev pub fault_text : ℕ × Stop → Text
  fault_text s = fault_of s.0 s.1.asked s.1.reason

  -- of a greeting that is none, then of each node that has stopped by an answer
  abbrev pub faults : List (ℕ × Stop) → Text
  faults stops = greeting_fault (told_in book (codes "own 1")) ++ flat_map fault_text stops
