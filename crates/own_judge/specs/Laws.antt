-- What verdicts mean.
use Rattle.std.specs.Prelude.{◌≡◌, ℕ, ◌<◌, Bool, length, slice_get, List, Some, None}
use Rattle.ghs_graph.specs.Graph.{Shape}
use Rattle.own_book.specs.Sends.{SameAtPorts}
use Rattle.own_book.specs.Answer.{opens, reacts, saying}
use Rattle.own_book.specs.Entry.{Entry, told_in}
use Rattle.own_book.specs.declared.question.Asked.TheVariants as asked
use Rattle.own_judge.specs.Deed.{DeedState, deed_in}
use Rattle.own_judge.specs.Look.{Asking, greeting_of, look_by}
use Rattle.own_book.specs.Asking.{open_text}
use Rattle.own_judge.specs.Question.{work_asked, work_text}
use Rattle.own_judge.specs.Verdict.{Agreed, Differed, Failed, looks, verdict}
use Rattle.own_judge.specs.declared.look.Amiss.{Amiss}
use Rattle.own_judge.specs.declared.look.Difference.{Difference}
use Rattle.own_judge.specs.declared.look.Greeting.TheVariants as greeting
use Rattle.own_judge.specs.declared.look.Look.{Look}
use Rattle.own_judge.specs.declared.look.Look.TheVariants as look
use Rattle.own_judge.specs.declared.look.Own.{Own}
use Rattle.own_judge.specs.declared.look.Own.TheVariants as own
use Rattle.peer_network.specs.declared.event.Event.{Event}

-- both defer the message or neither does; at each port they send the same messages in the same order; both halt or neither does
pub record DoesTheSame (one other : DeedState) : Type 0 where
  pub waits : one.waits ≡ other.waits
  pub sends : SameAtPorts one.sends other.sends
  pub halts : one.halts ≡ other.halts

-- what the book answers for a node in this state: the state after it, and what the node does
pub record Answers (book : List Entry) (a : Asking) (before after : List ℕ) (deed : DeedState) : Type 0 where
  pub line : ℕ
  pub answer : List ℕ
  pub waits : Bool
  pub sends : List ℕ
  pub told : told_in book (work_text a.node a.work before) ≡ Some (line, answer)
  pub says : saying (work_asked a.work) answer ≡ Some (reacts after waits sends)
  pub does : deed ≡ deed_in before after waits sends

-- the book opens the node in this state
pub record Opens (book : List Entry) (a : Asking) (state : List ℕ) : Type 0 where
  pub line : ℕ
  pub answer : List ℕ
  pub told : told_in book (open_text a.node a.ports) ≡ Some (line, answer)
  pub says : saying asked.Opening answer ≡ Some (opens state)

-- the node is in this state before the event
abbrev pub IsIn : List Entry → Asking → Own → List ℕ → Type 0
IsIn book a (own.Known state) before = before ≡ state
IsIn book a own.Unopened before = Opens book a before
IsIn book a own.Unknown before = ⊥

-- where an event agrees, the book's answer is the reaction
pub record HasReacted (book : List Entry) (a : Asking) (own : Own) (after : List ℕ) : Type 0 where
  pub before : List ℕ
  pub deed : DeedState
  pub state : IsIn book a own before
  pub answers : Answers book a before after deed
  pub same : DoesTheSame deed a.theirs

-- where one differs, the book's answer isn't the reaction
pub record HasDiffered (book : List Entry) (a : Asking) (own : Own) (d : Difference) : Type 0 where
  pub after : List ℕ
  pub state : IsIn book a own d.before
  pub answers : Answers book a d.before after d.deed
  pub other : DoesTheSame d.deed a.theirs → ⊥

abbrev pub AgreesRightly : List Entry → Asking → Own → Type 0
AgreesRightly book a own = (after : List ℕ) → look_by book a own ≡ look.Agrees after → HasReacted book a own after

abbrev pub DiffersRightly : List Entry → Asking → Own → Type 0
DiffersRightly book a own = (d : Difference) → look_by book a own ≡ look.Differs d → HasDiffered book a own d

-- a question is open only where the book has no answer to it
abbrev pub AsksRightly : List Entry → Asking → Own → Type 0
AsksRightly book a own = (question : List ℕ) → look_by book a own ≡ look.Open question → told_in book question ≡ None

-- the event behind so many agrees
abbrev pub AgreesAt : List Look → ℕ → Type 0
AgreesAt ls k = (state : List ℕ) × (slice_get ls k ≡ Some (look.Agrees state))

-- the events before it agree, and this comes of it
pub record IsFirstOther (ls : List Look) (k : ℕ) (l : Look) : Type 0 where
  pub before : (j : ℕ) → j < k → AgreesAt ls j
  pub here : slice_get ls k ≡ Some l

-- the greeting names these kinds of messages, and this holds of what comes of the events
pub record Behind (book : List Entry) (g : Shape) (es : List Event) (P : List Look → Type 0) : Type 0 where
  pub kinds : List ℕ
  pub greets : greeting_of book ≡ greeting.Kinds kinds
  pub holds : P (looks book kinds g es)

-- where the verdict is that the book agrees, each event agrees; where it is another one, it is so of the first event that doesn't
pub record MeansVerdict (book : List Entry) (g : Shape) (es : List Event) : Type 0 where
  pub agreed : verdict book g es ≡ Agreed → Behind book g es (λ ls. (k : ℕ) → k < length es → AgreesAt ls k)
  pub failed : (k : ℕ) (a : Amiss) → verdict book g es ≡ Failed k a → Behind book g es (λ ls. IsFirstOther ls k (look.Fails a))
  pub differed : (k : ℕ) (d : Difference) → verdict book g es ≡ Differed k d → Behind book g es (λ ls. IsFirstOther ls k (look.Differs d))
