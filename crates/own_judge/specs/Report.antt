-- What is printed of a verdict.
use Rattle.std.specs.Prelude.{◌≡◌, ℕ, ◌+◌, Bool, cond, codes, decimal, length, take, slice_get, List, [], ◌∷◌, ◌++◌, Option, Some, None}
use Rattle.std.specs.List.{flat_map}
use Rattle.ghs_core.specs.NetState.{work_at}
use Rattle.ghs_graph.specs.Graph.{Shape}
use Rattle.ghs_node.specs.declared.work.Work.{Work}
use Rattle.ghs_node.specs.declared.work.Work.TheVariants.{Wake, Deliver}
use Rattle.ghs_node.specs.RowName.{row_name}
use Rattle.ghs_protocol.specs.Run.{net_after}
use Rattle.ghs_steps.specs.Step.{delta_of}
use Rattle.ghs_steps.specs.Words.{row_word, says}
use Rattle.own_book.specs.Sends.{Sending}
use Rattle.own_book.specs.declared.answer_fault.AnswerFault.{AnswerFault}
use Rattle.own_book.specs.declared.answer_fault.AnswerFault.TheVariants.{Garbled, GivesUp, NoKind, NoPort, StillAsleep}
use Rattle.own_book.specs.Entry.{Entry}
use Rattle.own_judge.specs.Deed.{DeedState, deed_of}
use Rattle.own_judge.specs.Verdict.{Agreed, Asks, Differed, Failed, Ungreeted, Verdict, end_of, verdict}
use Rattle.own_judge.specs.declared.end.End.{End}
use Rattle.own_judge.specs.declared.look.Amiss.{Amiss}
use Rattle.own_judge.specs.declared.look.Difference.{Difference}
use Rattle.peer_network.specs.declared.event.Event.{Event}
use Rattle.peer_network.specs.Events.{event_node}
use Rattle.peer_network.specs.Network.{far, network_of}
use Rattle.peer_words.specs.Text.{message_text}

unfoldable pub counted : List ℕ → ℕ → List ℕ → List ℕ
counted front number back = front ++ decimal number ++ back

unfoldable pub labelled : List ℕ → List ℕ → List ℕ
labelled label text = label ++ text ++ 10 ∷ []

-- what an event brings to its node
abbrev pub work_words : Shape → ℕ → Work → List ℕ
work_words g v Wake = codes " wakes"
work_words g v (Deliver p m) =
    codes " takes " ++ message_text (says m) ++ codes " at port " ++ decimal p ++ codes ", from node " ++ decimal (far (network_of g) v p)

-- the event that comes after these
unfoldable pub event_text : Shape → List Event → Event → List ℕ
event_text g done e =
    codes "event " ++ decimal (length done + 1) ++ codes ": node " ++ decimal (event_node e)
    ++ work_words g (event_node e) (work_at (net_after g done) e) ++ 10 ∷ []

-- what node v sends on a port
unfoldable pub send_text : Shape → ℕ → Sending → List ℕ
send_text g v s =
    codes "  sends " ++ s.1 ++ codes " at port " ++ decimal s.0 ++ codes ", to node " ++ decimal (far (network_of g) v s.0) ++ 10 ∷ []

abbrev pub sends_text : Shape → ℕ → List Sending → List ℕ
sends_text g v [] = codes "  sends nothing\n"
sends_text g v (s ∷ ss) = flat_map (send_text g v) (s ∷ ss)

unfoldable pub deferral : Bool → List ℕ
deferral waits = cond waits (codes "  defers the message\n") []

unfoldable pub halt : Bool → List ℕ
halt halts = cond halts (codes "  halts\n") []

-- what node v does, a line for each thing
unfoldable pub deed_text : Shape → ℕ → DeedState → List ℕ
deed_text g v d = deferral d.waits ++ sends_text g v d.sends ++ halt d.halts

-- the row, and what the proved node does by it
unfoldable pub row_text : Shape → List Event → Event → List ℕ
row_text g done e =
    let n = (net_after g done).node (event_node e) in
    let k = work_at (net_after g done) e in
    codes "the protocol, by row " ++ row_word (row_name n k) ++ codes ":\n" ++ deed_text g (event_node e) (deed_of (delta_of n k))

-- what the book's node does, and the state in which it does that
unfoldable pub difference_text : Shape → ℕ → Difference → List ℕ
difference_text g v d =
    counted (codes "your node, by line ") d.line (codes " of the book:\n") ++ deed_text g v d.deed
    ++ labelled (codes "its state before: ") d.before

abbrev pub fault_words : AnswerFault → List ℕ
fault_words GivesUp = codes "GIVES_UP: the node has no rule for this\n"
fault_words Garbled = codes "GARBLED: this is no answer to the question\n"
fault_words StillAsleep = codes "STILL_ASLEEP: the node got work and is still asleep\n"
fault_words NoPort = codes "NO_PORT: the node has no such port\n"
fault_words NoKind = codes "NO_KIND: the greeting names no such kind of messages\n"

unfoldable pub exchange : List ℕ → List ℕ → List ℕ
exchange question answer = labelled (codes "question: ") question ++ labelled (codes "answer: ") answer

-- the fault of an answer
unfoldable pub amiss_text : Amiss → List ℕ
amiss_text a =
    fault_words a.fault ++ exchange a.question a.answer ++ counted (codes "line of the book: ") a.line (codes "\n")

-- how many events agree
abbrev pub agreed_text : ℕ → List ℕ
agreed_text events = counted (codes "the node agrees with the protocol at all ") events (codes " events\n")

abbrev pub failed_text : Shape → List Event → Amiss → Option Event → List ℕ
failed_text g done a None = []
failed_text g done a (Some e) = event_text g done e ++ amiss_text a

abbrev pub differed_text : Shape → List Event → Difference → Option Event → List ℕ
differed_text g done d None = []
differed_text g done d (Some e) = event_text g done e ++ row_text g done e ++ difference_text g (event_node e) d

-- what is printed of a verdict; open questions are printed alone
abbrev pub verdict_text : Shape → List Event → Verdict → List ℕ
verdict_text g es Agreed = agreed_text (length es)
verdict_text g es (Asks questions) = questions
verdict_text g es (Ungreeted a) = amiss_text a
verdict_text g es (Failed k a) = failed_text g (take k es) a (slice_get es k)
verdict_text g es (Differed k d) = differed_text g (take k es) d (slice_get es k)

-- how the judging of a run ends, and what is printed of that
pub record IsJudgement (book : List Entry) (g : Shape) (es : List Event) (end : End) (text : List ℕ) : Type 0 where
  pub ends : end ≡ end_of (verdict book g es)
  pub printed : text ≡ verdict_text g es (verdict book g es)
