-- What comes of asking the book at an event.
use Rattle.std.specs.Prelude.{◌≡◌, ℕ, Bool, true, cond, List, Option, Some, None}
use Rattle.ghs_graph.specs.Graph.{Shape}
use Rattle.ghs_graph.specs.declared.port.Port.{Port}
use Rattle.ghs_node.specs.declared.work.Work.{Work}
use Rattle.ghs_node.specs.NodeState.{degree}
use Rattle.ghs_core.specs.NetState.{work_at}
use Rattle.ghs_protocol.specs.Run.{net_after}
use Rattle.ghs_steps.specs.Step.{delta_of}
use Rattle.own_book.specs.Sends.{sends_fault}
use Rattle.own_book.specs.Variables.{says_asleep}
use Rattle.own_book.specs.declared.answer_fault.AnswerFault.{AnswerFault}
use Rattle.own_book.specs.declared.answer_fault.AnswerFault.TheVariants as faults
use Rattle.own_book.specs.Answer.{Saying, are_kinds, greets, opens, reacts, gives_up, saying, sends_in}
use Rattle.own_book.specs.Entry.{Entry, told_in}
use Rattle.own_book.specs.declared.question.Asked.TheVariants as asked
use Rattle.own_judge.specs.Deed.{DeedState, agree, deed_in, deed_of}
use Rattle.own_book.specs.Asking.{open_text}
use Rattle.own_judge.specs.Question.{greeting_text, work_asked, work_text}
use Rattle.own_judge.specs.declared.look.Amiss.{Amiss}
use Rattle.own_judge.specs.declared.look.Greeting.{Greeting}
use Rattle.own_judge.specs.declared.look.Greeting.TheVariants as greeting
use Rattle.own_judge.specs.declared.look.Look.{Look}
use Rattle.own_judge.specs.declared.look.Look.TheVariants as look
use Rattle.own_judge.specs.declared.look.Own.{Own}
use Rattle.own_judge.specs.declared.look.Own.TheVariants as own
use Rattle.peer_network.specs.declared.event.Event.{Event}
use Rattle.peer_network.specs.Events.{event_node}
use Rattle.peer_network.specs.Network.{network_of}

-- an answer with the number of its line, and the fault of it
abbrev pub amiss : List ℕ → ℕ × List ℕ → AnswerFault → Amiss
amiss question told fault = record { fault = fault; question = question; line = told.0; answer = told.1 }

-- what is asked at an event: which kinds of messages the greeting names, the node with its ports, its work, and what the proved node does
pub record Asking : Type 0 where
  pub kinds : List ℕ
  pub node : ℕ
  pub ports : List Port
  pub degree : ℕ
  pub work : Work
  pub theirs : DeedState

-- a reaction that is none of a node: one that sleeps on, or sends at a port or of a kind that isn't there
abbrev pub reaction_fault : Asking → List ℕ → List ℕ → Option AnswerFault
reaction_fault a after sends = cond (says_asleep after) (Some faults.StillAsleep) (sends_fault a.kinds a.degree (sends_in sends))

-- a reaction without a fault is that of the proved node, or another one
abbrev pub compared : Asking → List ℕ → ℕ → List ℕ → DeedState → Look
compared a before line after deed =
    cond (agree deed a.theirs) (look.Agrees after) (look.Differs (record { before = before; line = line; deed = deed }))

abbrev pub judged : Asking → List ℕ → List ℕ → ℕ × List ℕ → List ℕ → Bool → List ℕ → Option AnswerFault → Look
judged a question before told after waits sends (Some fault) = look.Fails (amiss question told fault)
judged a question before told after waits sends None = compared a before told.0 after (deed_in before after waits sends)

abbrev pub by_reaction : Asking → List ℕ → List ℕ → ℕ × List ℕ → Option Saying → Look
by_reaction a question before told (Some (reacts after waits sends)) =
    judged a question before told after waits sends (reaction_fault a after sends)
by_reaction a question before told (Some (gives_up why)) = look.Fails (amiss question told faults.GivesUp)
by_reaction a question before told other = look.Fails (amiss question told faults.Garbled)

abbrev pub by_answer : Asking → List ℕ → List ℕ → Option (ℕ × List ℕ) → Look
by_answer a question before None = look.Open question
by_answer a question before (Some told) = by_reaction a question before told (saying (work_asked a.work) told.1)

-- of a node in this state
abbrev pub in_state : List Entry → Asking → List ℕ → Look
in_state book a before =
    let question = work_text a.node a.work before in by_answer a question before (told_in book question)

abbrev pub by_opening : List Entry → Asking → List ℕ → ℕ × List ℕ → Option Saying → Look
by_opening book a question told (Some (opens state)) = in_state book a state
by_opening book a question told (Some (gives_up why)) = look.Fails (amiss question told faults.GivesUp)
by_opening book a question told other = look.Fails (amiss question told faults.Garbled)

abbrev pub by_first : List Entry → Asking → List ℕ → Option (ℕ × List ℕ) → Look
by_first book a question None = look.Open question
by_first book a question (Some told) = by_opening book a question told (saying asked.Opening told.1)

-- of a node whose state is known, that hasn't been opened, or of which nothing is known any more
abbrev pub look_by : List Entry → Asking → Own → Look
look_by book a (own.Known state) = in_state book a state
look_by book a own.Unopened = let question = open_text a.node a.ports in by_first book a question (told_in book question)
look_by book a own.Unknown = look.Silent

-- what is asked at an event that comes after these
abbrev pub asking : List ℕ → Shape → List Event → Event → Asking
asking kinds g done e =
    let v = event_node e in
    let n = (net_after g done).node v in
    let k = work_at (net_after g done) e in
    record {
      kinds = kinds;
      node = v;
      ports = (network_of g).ports v;
      degree = degree n;
      work = k;
      theirs = deed_of (delta_of n k);
    }

abbrev pub look_at : List Entry → List ℕ → Shape → List Event → Event → Own → Look
look_at book kinds g done e own = look_by book (asking kinds g done e) own

-- the greeting names the kinds of messages
abbrev pub by_greeting : ℕ × List ℕ → Option Saying → Greeting
by_greeting told (Some (greets name kinds)) = greeting.Kinds kinds
by_greeting told (Some (gives_up why)) = greeting.Fails (amiss greeting_text told faults.GivesUp)
by_greeting told other = greeting.Fails (amiss greeting_text told faults.Garbled)

abbrev pub greeted : Option (ℕ × List ℕ) → Greeting
greeted None = greeting.Open greeting_text
greeted (Some told) = by_greeting told (saying asked.Greeting told.1)

abbrev pub greeting_of : List Entry → Greeting
greeting_of book = greeted (told_in book greeting_text)

-- the kinds that a greeting names can be read
abbrev pub HasKinds : Greeting → Type 0
HasKinds (greeting.Kinds kinds) = are_kinds kinds ≡ true
HasKinds (greeting.Open question) = Unit {0}
HasKinds (greeting.Fails a) = Unit {0}
