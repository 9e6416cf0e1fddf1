-- The rules of a book: a node does what the book answers.
use Rattle.std.specs.Prelude.{ℕ, Bool, false, length, map, List, [], Option, Some, None}
use Rattle.ghs_graph.specs.declared.port.Port.{Port}
use Rattle.own_book.specs.Sends.{Sending}
use Rattle.own_book.specs.Variables.{says_asleep, says_halted}
use Rattle.own_book.specs.declared.answer_fault.AnswerFault.TheVariants as faults
use Rattle.own_book.specs.Answer.{Saying, opens, gives_up, saying}
use Rattle.own_book.specs.Entry.{Entry, told_in}
use Rattle.own_book.specs.declared.question.Asked.TheVariants as asked
use Rattle.peer_machine.specs.declared.work.Work.{Work}
use Rattle.peer_machine.specs.declared.work.Work.TheVariants as work
use Rattle.peer_machine.specs.Rules.{Rules, Outcome, Outgoing}
use Rattle.own_rules.specs.Bits.{bits_of}
use Rattle.own_rules.specs.Deed.{Deed, deed_of, goes_on, stops}
use Rattle.own_book.specs.Asking.{open_text}
use Rattle.own_rules.specs.Texts.{Text, kind_among, kinds_many, kinds_of, number_in, text_at, texts_of}
use Rattle.own_rules.specs.declared.node.Allowance.{Allowance}
use Rattle.own_rules.specs.declared.node.Lookup.{Lookup}
use Rattle.own_rules.specs.declared.node.Lookup.TheVariants as lookup
use Rattle.own_rules.specs.declared.node.Message.{Message}
use Rattle.own_rules.specs.declared.node.Node.{Node}
use Rattle.own_rules.specs.declared.node.Reason.{Reason}
use Rattle.own_rules.specs.declared.node.Reason.TheVariants.{Unanswered, Fails}
use Rattle.own_rules.specs.declared.node.State.{State}
use Rattle.own_rules.specs.declared.node.State.TheVariants.{Runs, Stopped}

abbrev pub stopped : Option Lookup → Reason → State
stopped asked reason = Stopped (record { asked = asked; reason = reason })

-- a node changes in how far it has come alone
abbrev pub after : Node → State → Node
after n s = record n { state = s }

-- what a node is asked in the state with this number when it gets some work
abbrev pub lookup_at : ℕ → ℕ → Work Message → Lookup
lookup_at v text work.Wake = lookup.Wake v text
lookup_at v text (work.Deliver p m) = lookup.Take v p m.text text

-- messages by their numbers
abbrev pub message_in : List Text → Sending → ℕ × Message
message_in texts s = (s.0, record { text = number_in texts s.1 })

abbrev pub numbered : List Text → List Sending → Outgoing Message
numbered texts sends = map (message_in texts) sends

abbrev pub state_by : List Text → Lookup → Deed → State
state_by texts l (goes_on after waits sends left) = Runs (number_in texts after) false left
state_by texts l (stops reason) = stopped (Some l) reason

abbrev pub sends_by : List Text → Deed → Outgoing Message
sends_by texts (goes_on after waits sends left) = numbered texts sends
sends_by texts (stops reason) = []

abbrev pub waits_by : Deed → Bool
waits_by (goes_on after waits sends left) = waits
waits_by (stops reason) = false

module _ (book : List Entry) where
  -- by the answer to its opening a node runs, or stops at once
  abbrev pub opened_by : Allowance → Option Saying → State
  opened_by most (Some (opens state)) = Runs (number_in (texts_of book) state) (says_asleep state) most
  opened_by most (Some (gives_up why)) = stopped None (Fails faults.GivesUp)
  opened_by most other = stopped None (Fails faults.Garbled)

  abbrev pub opened : Allowance → Option (ℕ × Text) → State
  opened most None = stopped None Unanswered
  opened most (Some told) = opened_by most (saying asked.Opening told.1)

  abbrev pub opening : Allowance → ℕ → List Port → Node
  opening most v ports = record { number = v; ports = length ports; state = opened most (told_in book (open_text v ports)) }

  abbrev pub sleeps : State → Bool
  sleeps (Runs text asleep left) = asleep
  sleeps (Stopped s) = false

  abbrev pub halts : State → Bool
  halts (Runs text asleep left) = says_halted (text_at (texts_of book) text)
  halts (Stopped s) = false

  -- what node v of so many ports does next
  abbrev pub next : ℕ → ℕ → Work Message → State → State
  next v ports k (Runs text asleep left) =
      state_by (texts_of book) (lookup_at v text k) (deed_of book ports left (lookup_at v text k))
  next v ports k (Stopped s) = Stopped s

  abbrev pub sent : ℕ → ℕ → Work Message → State → Outgoing Message
  sent v ports k (Runs text asleep left) = sends_by (texts_of book) (deed_of book ports left (lookup_at v text k))
  sent v ports k (Stopped s) = []

  abbrev pub deferred : ℕ → ℕ → Work Message → State → Bool
  deferred v ports work.Wake s = false
  deferred v ports (work.Deliver p m) (Runs text asleep left) = waits_by (deed_of book ports left (lookup.Take v p m.text text))
  deferred v ports (work.Deliver p m) (Stopped s) = false

  abbrev pub reacted : Node → Work Message → Outcome Node Message
  reacted n k = record { state = after n (next n.number n.ports k n.state); sends = sent n.number n.ports k n.state }

  -- Each node opens with the allowance `most`. Every work has a reaction: a node to which the book has no answer, or a wrong one, stops.
  abbrev pub rules_of : Allowance → Rules Node Message
  rules_of most = record {
    opening = λ v ports. opening most v ports;
    is_asleep = λ n. sleeps n.state;
    has_halted = λ n. halts n.state;
    reaction = λ n k. Some (reacted n k);
    defers = λ n k. deferred n.number n.ports k n.state;
    kinds = kinds_many (kinds_of book);
    kind_of = λ m. kind_among (kinds_of book) (text_at (texts_of book) m.text);
    bits = λ g m. bits_of (kinds_of book) g (text_at (texts_of book) m.text);
  }
