-- The words of a book: how a line says what its nodes and messages are.
use Rattle.std.specs.Prelude.{ℕ, cond, codes, length, nat_lt, map, List, [], ◌∷◌, Option, Some, None, slice_get, slice_index_or, unwrap_or}
use Rattle.std.specs.Str.{bytes_eq}
use Rattle.own_book.specs.declared.answer_fault.AnswerFault.{AnswerFault}
use Rattle.own_book.specs.declared.answer_fault.AnswerFault.TheVariants as faults
use Rattle.own_book.specs.Entry.{Entry}
use Rattle.own_book.specs.Parts.{closed, cut_at, parts_at}
use Rattle.peer_machine.specs.declared.work.Work.{Work}
use Rattle.peer_words.specs.declared.spoken.Touched.{Touched}
use Rattle.peer_words.specs.declared.spoken.Touched.TheVariants.{AllPorts}
use Rattle.peer_words.specs.declared.value.Said.{Said}
use Rattle.peer_words.specs.declared.value.Saying.{Saying}
use Rattle.peer_words.specs.declared.value.Value.TheVariants.{Word}
use Rattle.peer_words.specs.Words.{Words}
use Rattle.own_rules.specs.Deed.{Deed, deed_of, goes_on, stops}
use Rattle.own_rules.specs.Rules.{lookup_at}
use Rattle.own_rules.specs.Texts.{Text, kind_among, kinds_of, names_of, text_at, texts_of}
use Rattle.own_rules.specs.declared.node.Message.{Message}
use Rattle.own_rules.specs.declared.node.Node.{Node}
use Rattle.own_rules.specs.declared.node.Reason.{Reason}
use Rattle.own_rules.specs.declared.node.Reason.TheVariants.{Unanswered, Fails, Spent}
use Rattle.own_rules.specs.declared.node.State.{State}
use Rattle.own_rules.specs.declared.node.State.TheVariants.{Runs, Stopped}

abbrev pub word_said : Text → Text → Said
word_said name value = record { name = name; value = Word value }

-- what a message carries is one value: all that stands in its brackets
abbrev pub values_said : Option Text → List Said
values_said None = []
values_said (Some values) = word_said (codes "values") values ∷ []

abbrev pub carried_in : Option (Text × Text) → List Said
carried_in None = []
carried_in (Some (kind, rest)) = values_said (closed rest)

-- a variable of a state's text: `NAME=VALUE`
abbrev pub named : Text → Option (Text × Text) → Said
named part None = word_said part []
named part (Some (name, value)) = word_said name value

abbrev pub variable_in : Text → Said
variable_in part = named part (cut_at 61 part)

abbrev pub variables_in : Text → List Said
variables_in text = map variable_in (parts_at 59 text)

-- why a node has stopped
abbrev pub fault_word : AnswerFault → Text
fault_word faults.GivesUp = codes "GIVES_UP"
fault_word faults.Garbled = codes "GARBLED"
fault_word faults.StillAsleep = codes "STILL_ASLEEP"
fault_word faults.NoPort = codes "NO_PORT"
fault_word faults.NoKind = codes "NO_KIND"

abbrev pub reason_word : Reason → Text
reason_word Unanswered = codes "UNANSWERED"
reason_word (Fails fault) = fault_word fault
reason_word Spent = codes "SPENT"

-- the value of the first variable of a name, if there is one
abbrev pub value_if : Text → Option (Text × Text) → Option Text
value_if name None = None
value_if name (Some (other, value)) = cond (bytes_eq other name) (Some value) None

abbrev pub first_of : Option Text → Option Text → Option Text
first_of (Some value) other = Some value
first_of None other = other

abbrev pub value_among : Text → List Text → Option Text
value_among name [] = None
value_among name (part ∷ parts) = first_of (value_if name (cut_at 61 part)) (value_among name parts)

-- the variable `marks` has a word for each port; a port without one is basic
abbrev pub word_at : Option Text → ℕ → Option Text
word_at None p = None
word_at (Some marks) p = slice_get (parts_at 44 marks) p

abbrev pub mark_in : Text → ℕ → Text
mark_in text p = unwrap_or (word_at (value_among (codes "marks") (parts_at 59 text)) p) (codes "basic")

-- any change may change all marks
abbrev pub touched_by : State → Touched
touched_by s = AllPorts

-- what the book did with some work: the node goes on, defers the message, or stops
abbrev pub verdict_word : Deed → Text
verdict_word (goes_on after waits sends left) = cond waits (codes "waits") (codes "goes_on")
verdict_word (stops reason) = codes "stopped"

module _ (book : List Entry) where
  -- the name of a kind; a book that names none has one kind, whose name is a dash
  abbrev pub kind_name : ℕ → Text
  kind_name k = cond (nat_lt k (length (names_of (kinds_of book)))) (slice_index_or (names_of (kinds_of book)) k []) (codes "-")

  abbrev pub says_text : Text → Saying
  says_text text = record { kind = kind_name (kind_among (kinds_of book) text); carried = carried_in (cut_at 40 text) }

  -- a node that has stopped has one variable: why it has
  abbrev pub variables_at : State → List Said
  variables_at (Runs text asleep left) = variables_in (text_at (texts_of book) text)
  variables_at (Stopped s) = word_said (codes "stopped") (reason_word s.reason) ∷ []

  abbrev pub mark_at : State → ℕ → Text
  mark_at (Runs text asleep left) p = mark_in (text_at (texts_of book) text) p
  mark_at (Stopped s) p = codes "basic"

  abbrev pub row_at : ℕ → ℕ → State → Work Message → Text
  row_at v ports (Runs text asleep left) k = verdict_word (deed_of book ports left (lookup_at v text k))
  row_at v ports (Stopped s) k = codes "stopped"

  abbrev pub words_of : Words Node Message
  words_of = record {
    name = codes "own";
    says = λ m. says_text (text_at (texts_of book) m.text);
    kind = kind_name;
    row = λ n k. row_at n.number n.ports n.state k;
    variables = λ n. variables_at n.state;
    mark = λ n p. mark_at n.state p;
  }
