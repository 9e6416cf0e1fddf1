-- What the program says of a stored run that a book judges, and of all runs.
use Rattle.std.specs.Prelude.{◌≡◌, ℕ, ◌<◌, ◌++◌, true, List, codes, decimal, length, Option, Result, Ok, Err}
use Rattle.std.specs.List.{flat_map}
use Rattle.ghs_gr.specs.Text.{IsTooLong}
use Rattle.ghs_gr.specs.declared.text.TextFault.{TextFault}
use Rattle.ghs_gr.specs.declared.text.TextFault.TheVariants as text
use Rattle.ghs_graph.specs.Graph.{Shape}
use Rattle.ghs_explore.specs.declared.fault.ExploreFault.{ExploreFault}
use Rattle.ghs_explore.specs.declared.fault.ExploreFault.TheVariants as explore
use Rattle.ghs_protocol.specs.Run.{IsRun, IsRunUnder}
use Rattle.ghs_report.specs.Writing.{HasWritten}
use Rattle.ghs_sched.specs.Replays.{IsFirstUnlawful}
use Rattle.own_book.specs.Book.{HasEntries, HasFault}
use Rattle.own_book.specs.Entry.{Entry}
use Rattle.own_book.specs.declared.fault.BookFault.{BookFault}
use Rattle.own_book.specs.declared.fault.BookFault.TheVariants as book
use Rattle.own_judge.specs.Look.{greeting_of}
use Rattle.own_judge.specs.Report.{IsJudgement}
use Rattle.own_judge.specs.Verdict.{line, verdict}
use Rattle.own_judge.specs.declared.end.End.{End}
use Rattle.own_judge.specs.declared.end.End.TheVariants as end
use Rattle.own_judge.specs.Outcome.{IsOutcome, ManyBy}
use Rattle.own_judge.specs.Rows.{rows_text}
use Rattle.own_judge.specs.declared.outcome.Outcome.{Outcome}
use Rattle.own_judge.specs.declared.outcome.Outcome.TheVariants as outcome
use Rattle.own_judge.specs.declared.rows.Rows.{Rows}
use Rattle.peer_machine.specs.Explorable.{IsSmall}
use Rattle.peer_texts.specs.Text.{trace_text}
use Rattle.peer_network.specs.Network.{network_of}
use Rattle.peer_network.specs.Wakes.{may_wake}
use Rattle.peer_network.specs.declared.event.Event.{Event}
use Rattle.peer_network.specs.declared.wake_set.WakeSet.{WakeSet}
use Rattle.ghs_answers.specs.Fault.{status_of}
use Rattle.ghs_answers.specs.Causes.{is_write}
use Rattle.ghs_answers.specs.declared.fault.ServeFault.{ServeFault}
use Rattle.ghs_answers.specs.declared.fault.ServeFault.TheVariants as serve
use Rattle.own_cli.specs.declared.judging.BookCause.{BookCause}
use Rattle.own_cli.specs.declared.judging.BookCause.TheVariants as cause

-- a fault of a book's text, or of its reading, as a cause; memory is nobody's text's fault
abbrev pub of_book : BookFault → BookCause
of_book book.TooMany = cause.Text book.TooMany
of_book (book.TooLong line) = cause.Text (book.TooLong line)
of_book (book.BadLine line) = cause.Text (book.BadLine line)
of_book (book.Number line) = cause.Text (book.Number line)
of_book (book.Wavers first line) = cause.Text (book.Wavers first line)
of_book book.Memory = cause.Reading serve.Memory

abbrev pub of_text : TextFault → BookCause
of_text text.Read = cause.Reading serve.Read
of_text text.TooLong = cause.Reading serve.TooLong
of_text text.Memory = cause.Reading serve.Memory

abbrev pub book_status : BookCause → ℕ
book_status (cause.Text fault) = 1
book_status (cause.Reading fault) = status_of fault

-- the text is that of a book with these entries
pub record IsBookText (said : List ℕ) (entries : List Entry) : Type 0 where
  pub short : IsTooLong said → ⊥
  pub has : HasEntries said entries

-- why a book isn't read; the reader and memory may fail for any
abbrev pub IsReadCause : List ℕ → ServeFault → Type 0
IsReadCause said serve.TooLong = IsTooLong said
IsReadCause said serve.Memory = Unit {0}
IsReadCause said serve.Read = Unit {0}
IsReadCause said _ = ⊥

abbrev pub IsBookCause : List ℕ → BookCause → Type 0
IsBookCause said (cause.Text fault) = (IsTooLong said → ⊥) × HasFault said fault
IsBookCause said (cause.Reading fault) = IsReadCause said fault

-- the device failed
abbrev pub IsReadFault : BookCause → Type 0
IsReadFault (cause.Text fault) = ⊥
IsReadFault (cause.Reading fault) = fault ≡ serve.Read

abbrev pub IsUnread : {B : Type 0} → Result B BookCause → Type 0
IsUnread (Ok b) = ⊥
IsUnread (Err fault) = IsReadFault fault

-- the events are a run, and this is the text of its verdict
pub record IsOfRun (wake : WakeSet) (g : Shape) (es : List Event) (entries : List Entry) (end : End) (output : List ℕ) : Type 0 where
  pub run : IsRunUnder (may_wake g wake) (network_of g) es
  pub judged : IsJudgement entries g es end output

-- what has gone out: all of the text, or only its first bytes, where a write failed; nothing where the events are no run
abbrev pub HasJudged : WakeSet → Shape → List Event → List Entry → Option (List ℕ) → Option (List ℕ) → Result End ServeFault → Type 0
HasJudged wake g es entries old new (Ok end) = (output : List ℕ) × IsOfRun wake g es entries end output × HasWritten old new output (length output)
HasJudged wake g es entries old new (Err (serve.Write written)) =
    (output : List ℕ) × ((end : End) × IsOfRun wake g es entries end output) × (written < length output) × HasWritten old new output written
HasJudged wake g es entries old new (Err (serve.NotLawful k)) = IsFirstUnlawful g wake es k × (new ≡ old)
HasJudged wake g es entries old new (Err serve.Memory) = new ≡ old
HasJudged wake g es entries old new (Err fault) = ⊥

-- what is printed where the book agrees in every run, which lead to so many states and by these rows
abbrev pub agreed_text : ℕ → Rows → List ℕ
agreed_text states rows =
    codes "the node agrees with the protocol in every run: " ++ decimal states ++ codes " states\n" ++ rows_text rows

-- what stands between what a shortest run tells and its events
abbrev pub shortest : List ℕ
shortest = codes "the shortest order that leads there:\n"

-- how the judging of all runs ends, and what is printed of it
abbrev pub IsToldOf : Shape → List Entry → Outcome → End → List ℕ → Type 0
IsToldOf g entries (outcome.Agrees states rows) e text = (e ≡ end.Agrees) × (text ≡ agreed_text states rows)
IsToldOf g entries (outcome.Asks questions) e text = (e ≡ end.Asks) × (text ≡ flat_map line questions.items)
IsToldOf g entries (outcome.Tells events) e text =
    (judged : List ℕ) × IsJudgement entries g events.items e judged × (text ≡ judged ++ shortest ++ trace_text events.items)

-- it says what the book comes to in all runs of a graph
pub record IsOfAll (wake : WakeSet) (g : Shape) (entries : List Entry) (end : End) (output : List ℕ) : Type 0 where
  pub outcome : Outcome
  pub is : IsOutcome g wake (verdict entries g) (ManyBy entries g wake (greeting_of entries)) outcome
  pub told : IsToldOf g entries outcome end output

-- what has gone out: all of the text, or only its first bytes, where a write failed; nothing of a graph that is too large, or where the limit or the
-- numbers don't suffice
abbrev pub HasJudgedAll : WakeSet → Shape → List Entry → ℕ → Option (List ℕ) → Option (List ℕ) → Result End ServeFault → Type 0
HasJudgedAll wake g entries limit old new (Ok end) = (output : List ℕ) × IsOfAll wake g entries end output × HasWritten old new output (length output)
HasJudgedAll wake g entries limit old new (Err (serve.Write written)) =
    (output : List ℕ) × ((end : End) × IsOfAll wake g entries end output) × (written < length output) × HasWritten old new output written
HasJudgedAll wake g entries limit old new (Err serve.TooLargeToExplore) = (IsSmall g → ⊥) × (new ≡ old)
HasJudgedAll wake g entries limit old new (Err (serve.StateLimit most)) = (most ≡ limit) × (new ≡ old)
HasJudgedAll wake g entries limit old new (Err serve.PartLimit) = new ≡ old
HasJudgedAll wake g entries limit old new (Err serve.Memory) = new ≡ old
HasJudgedAll wake g entries limit old new (Err fault) = ⊥

-- where a run is told, it is one
abbrev pub IsRunTold : Shape → Outcome → Type 0
IsRunTold g (outcome.Tells events) = IsRun (network_of g) events.items
IsRunTold g (outcome.Agrees states rows) = Unit {0}
IsRunTold g (outcome.Asks questions) = Unit {0}

-- why all runs of a graph aren't judged
abbrev pub unjudged : ExploreFault → ℕ → ServeFault
unjudged explore.TooLarge limit = serve.TooLargeToExplore
unjudged explore.TooMany limit = serve.StateLimit limit
unjudged explore.PartLimit limit = serve.PartLimit
unjudged explore.Memory limit = serve.Memory
