-- What a text is: the text of a trace, or no such text, for one fault.
use Rattle.std.specs.Prelude.{ℕ, ◌≡◌, ◌≢◌, ◌⊎◌, length, List, [], ◌∷◌, Option, Some, None}
use Rattle.std.specs.List.{filter_map}
use Rattle.ghs_lines.specs.Judging.{AreSound, IsFirstFault, Judge}
use Rattle.peer_network.specs.declared.event.Event.{Event}
use Rattle.peer_network.specs.declared.event.Event.TheVariants as event
use Rattle.peer_texts.specs.Line.{meanings}
use Rattle.peer_texts.specs.declared.fault.LineFault.{LineFault}
use Rattle.peer_texts.specs.declared.fault.LineFault.TheVariants.{BadLine, Number}
use Rattle.peer_texts.specs.declared.fault.TraceFault.{TraceFault}
use Rattle.peer_texts.specs.declared.fault.TraceFault.TheVariants as trace
use Rattle.peer_texts.specs.declared.line.Line.{Line}
use Rattle.peer_texts.specs.declared.line.Line.TheVariants.{Passed, Malformed, Head, Wake, Take}

-- the number of events that the head says
abbrev pub head_in : List Line → Option ℕ
head_in [] = None
head_in (Passed ∷ more) = head_in more
head_in (Malformed ∷ more) = head_in more
head_in (Head None ∷ more) = head_in more
head_in (Head (Some count) ∷ more) = Some count
head_in (Wake v ∷ more) = head_in more
head_in (Take v port ∷ more) = head_in more

-- the event of a line
abbrev pub event_in : Line → Option Event
event_in Passed = None
event_in Malformed = None
event_in (Head count) = None
event_in (Wake None) = None
event_in (Wake (Some v)) = Some (event.Wake v)
event_in (Take None port) = None
event_in (Take (Some v) None) = None
event_in (Take (Some v) (Some port)) = Some (event.Take v port)

-- the events of lines, in order
abbrev pub events_in : List Line → List Event
events_in lines = filter_map event_in lines

-- the fault of a line of numbers
abbrev pub number_fault : {A : Type 0} → Option A → Option LineFault
number_fault None = Some Number
number_fault (Some number) = None

-- the first fault of a line: a line with fields has to be the head where none stands before it, and an event behind the head
abbrev pub line_fault : Option ℕ → Line → Option LineFault
line_fault head Passed = None
line_fault head Malformed = Some BadLine
line_fault None (Head count) = number_fault count
line_fault None (Wake v) = Some BadLine
line_fault None (Take v port) = Some BadLine
line_fault (Some said) (Head count) = Some BadLine
line_fault (Some said) (Wake v) = number_fault (event_in (Wake v))
line_fault (Some said) (Take v port) = number_fault (event_in (Take v port))

-- how the lines of a trace's text are judged
abbrev pub judge : Judge Line (Option ℕ) LineFault
judge = record { said_in = head_in; line_fault = line_fault; passed = Passed }

-- sound lines whose head says how many events there are
pub record IsTrace (lines : List Line) (events : List Event) : Type 0 where
  pub sound : AreSound judge lines
  pub head : head_in lines ≡ Some (length events)
  pub all : events ≡ events_in lines

-- sound lines without a head: none of them has fields
pub record LacksHead (lines : List Line) : Type 0 where
  pub sound : AreSound judge lines
  pub none : head_in lines ≡ None

-- sound lines whose head says another number of events than there are
pub record IsMiscount (lines : List Line) (said found : ℕ) : Type 0 where
  pub sound : AreSound judge lines
  pub head : head_in lines ≡ Some said
  pub counted : found ≡ length (events_in lines)
  pub other : said ≢ found

-- the text has this list of events
abbrev pub HasEvents : List ℕ → List Event → Type 0
HasEvents text events = IsTrace (meanings text) events

-- the lines have no list of events, for this fault
abbrev pub HaveFault : List Line → TraceFault → Type 0
HaveFault lines (trace.BadLine number) = IsFirstFault judge lines number BadLine ⊎ (LacksHead lines × (number ≡ 1))
HaveFault lines (trace.Number number) = IsFirstFault judge lines number Number
HaveFault lines (trace.Count said found) = IsMiscount lines said found
HaveFault lines trace.Memory = ⊥

-- the text has no list of events, for this fault
abbrev pub HasFault : List ℕ → TraceFault → Type 0
HasFault text fault = HaveFault (meanings text) fault

-- a line's fault as a fault of the text
abbrev pub of_line : LineFault → ℕ → TraceFault
of_line BadLine number = trace.BadLine number
of_line Number number = trace.Number number
