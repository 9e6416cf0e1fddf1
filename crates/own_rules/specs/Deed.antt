-- What a node does by an answer of the book.
use Rattle.std.specs.Prelude.{ℕ, ◌+◌, ◌-◌, ◌&&◌, Bool, cond, nat_le, length, List, Option, Some, None}
use Rattle.own_book.specs.Sends.{Sending, sends_fault}
use Rattle.own_book.specs.Variables.{says_asleep}
use Rattle.own_book.specs.declared.answer_fault.AnswerFault.{AnswerFault}
use Rattle.own_book.specs.declared.answer_fault.AnswerFault.TheVariants as faults
use Rattle.own_book.specs.Answer.{Saying, reacts, gives_up, saying, sends_in}
use Rattle.own_book.specs.Entry.{Entry}
use Rattle.own_rules.specs.Questions.{answer_at, asked_for}
use Rattle.own_rules.specs.Texts.{Text, kinds_of, texts_of}
use Rattle.own_rules.specs.declared.node.Allowance.{Allowance}
use Rattle.own_rules.specs.declared.node.Lookup.{Lookup}
use Rattle.own_rules.specs.declared.node.Reason.{Reason}
use Rattle.own_rules.specs.declared.node.Reason.TheVariants.{Unanswered, Fails, Spent}

-- it goes on in this state, defers the message or not, sends this, and has then this allowance left; or it stops
pub data Deed : Type 0 where
  goes_on : (after : Text) (waits : Bool) (sends : List Sending) (left : Allowance) → Deed
  stops : Reason → Deed

-- each message that is sent costs one, and where deferrals count, so does one that is deferred
abbrev pub cost : {M : Type 0} → Allowance → Bool → List M → ℕ
cost left waits sends = length sends + cond (waits && left.deferrals) 1 0

-- the allowance once so much is paid; none where it is too small
abbrev pub left_then : Allowance → ℕ → Option Allowance
left_then left cost = cond (nat_le cost left.messages) (Some (record left { messages = left.messages - cost })) None

-- a reaction without a fault, of a node with this allowance
abbrev pub paid_by : Text → Bool → List Sending → Option Allowance → Deed
paid_by after waits sends None = stops Spent
paid_by after waits sends (Some left) = goes_on after waits sends left

abbrev pub paid : Allowance → Text → Bool → List Sending → Deed
paid left after waits sends = paid_by after waits sends (left_then left (cost left waits sends))

-- the fault of a reaction: the node sleeps on, or sends at a port or of a kind that isn't there
abbrev pub reaction_fault : Text → ℕ → Text → List Sending → Option AnswerFault
reaction_fault kinds ports after sends = cond (says_asleep after) (Some faults.StillAsleep) (sends_fault kinds ports sends)

abbrev pub unless_faulty : Option AnswerFault → Deed → Deed
unless_faulty (Some fault) d = stops (Fails fault)
unless_faulty None d = d

-- by what an answer says
abbrev pub deed_said : Text → ℕ → Allowance → Option Saying → Deed
deed_said kinds ports left (Some (reacts after waits sends)) =
    unless_faulty (reaction_fault kinds ports after (sends_in sends)) (paid left after waits (sends_in sends))
deed_said kinds ports left (Some (gives_up why)) = stops (Fails faults.GivesUp)
deed_said kinds ports left other = stops (Fails faults.Garbled)

abbrev pub deed_by : Text → ℕ → Allowance → Lookup → Option Text → Deed
deed_by kinds ports left l None = stops Unanswered
deed_by kinds ports left l (Some answer) = deed_said kinds ports left (saying (asked_for l) answer)

-- by the book's answer, of a node of so many ports with this allowance
abbrev pub deed_of : List Entry → ℕ → Allowance → Lookup → Deed
deed_of book ports left l = deed_by (kinds_of book) ports left l (answer_at (texts_of book) book l)
