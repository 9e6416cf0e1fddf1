-- What a node sends, as an answer spells it.
use Rattle.std.specs.Prelude.{◌≡◌, ℕ, Bool, cond, filter, nat_lt, ◌==◌, List, [], ◌∷◌, Option, Some, None}
use Rattle.std.specs.List.{list_any}
use Rattle.std.specs.Str.{bytes_eq}
use Rattle.own_book.specs.Answer.{kinds_in}
use Rattle.own_book.specs.Parts.{cut_at}
use Rattle.own_book.specs.declared.answer_fault.AnswerFault.{AnswerFault}
use Rattle.own_book.specs.declared.answer_fault.AnswerFault.TheVariants.{NoKind, NoPort}

-- a port, and the text of a message that goes out there
abbrev pub Sending : Type 0
Sending = ℕ × List ℕ

-- what is sent at a port, in order
abbrev pub at_port : ℕ → List Sending → List Sending
at_port port sends = filter (λ s. s.0 == port) sends

-- The same messages at each port, in the same order. In which order ports have their turns changes no queue.
abbrev pub SameAtPorts : List Sending → List Sending → Type 0
SameAtPorts one other = (port : ℕ) → at_port port one ≡ at_port port other

-- the kind of a message: `KIND`, or `KIND(VALUE,..)`
abbrev pub kind_in : List ℕ → Option (List ℕ × List ℕ) → List ℕ
kind_in message None = message
kind_in message (Some (kind, arguments)) = kind

-- the kind is one of those that a greeting names
abbrev pub names_kind : List ℕ → List ℕ → Bool
names_kind kinds message = list_any (λ k. bytes_eq k.0 (kind_in message (cut_at 40 message))) (kinds_in kinds)

-- the fault of the first send that has one: a port that the node lacks, or a kind that its greeting lacks
abbrev pub sends_fault : List ℕ → ℕ → List Sending → Option AnswerFault
sends_fault kinds ports [] = None
sends_fault kinds ports (s ∷ more) =
    cond (nat_lt s.0 ports) (cond (names_kind kinds s.1) (sends_fault kinds ports more) (Some NoKind)) (Some NoPort)
