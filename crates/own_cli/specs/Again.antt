-- What the program prints of a stored run by a book that is played again, and when there is one.
use Rattle.std.specs.Prelude.{◌≡◌, ℕ, ◌<◌, length, List, Option, Result, Ok, Err}
use Rattle.ghs_gr.specs.Text.{IsTooLong}
use Rattle.ghs_choices.specs.declared.check.Check.{Check}
use Rattle.ghs_graph.specs.Graph.{Shape}
use Rattle.ghs_report.specs.Writing.{HasWritten}
use Rattle.own_book.specs.Entry.{Entry}
use Rattle.own_rules.specs.Rules.{rules_of}
use Rattle.own_rules.specs.declared.protocol.TheConstants.{RUNNING}
use Rattle.own_rules.specs.Run.{IsToldBy}
use Rattle.own_rules.specs.declared.run.BookRun.{BookRun}
use Rattle.own_runs.specs.Again.{IsReplayBy}
use Rattle.own_runs.specs.Mark.{Fits, Misfits}
use Rattle.own_runs.specs.declared.mark.Misfit.TheVariants.{Another, Shorter}
use Rattle.peer_network.specs.declared.event.Event.{Event}
use Rattle.peer_network.specs.declared.wake_set.WakeSet.{WakeSet}
use Rattle.peer_runs.specs.Replays.{IsFirstUnlawful}
use Rattle.peer_trace.specs.Mark.{Mark}
use Rattle.peer_trace.specs.Reading.{HasOwnEvents, HasOwnFault}
use Rattle.own_cli.specs.Run.{IsCutOff, IsPrintedAs}
use Rattle.ghs_answers.specs.Fault.{status_of}
use Rattle.ghs_answers.specs.Causes.{IsStoredCause}
use Rattle.own_cli.specs.declared.run.OwnEnd.{OwnEnd}
use Rattle.ghs_answers.specs.declared.fault.ServeFault.{ServeFault}
use Rattle.ghs_answers.specs.declared.fault.ServeFault.TheVariants as serve
use Rattle.own_cli.specs.declared.again.OwnCause.{OwnCause}
use Rattle.own_cli.specs.declared.again.OwnCause.TheVariants as cause

abbrev pub cause_status : OwnCause → ℕ
cause_status (cause.Another name) = 1
cause_status (cause.Shorter entries) = 1
cause_status (cause.Reading fault) = status_of fault

-- the device failed
abbrev pub IsReadCause : OwnCause → Type 0
IsReadCause (cause.Another name) = ⊥
IsReadCause (cause.Shorter entries) = ⊥
IsReadCause (cause.Reading fault) = fault ≡ serve.Read

abbrev pub IsUnreadOwn : {E : Type 0} → Result E OwnCause → Type 0
IsUnreadOwn (Ok e) = ⊥
IsUnreadOwn (Err why) = IsReadCause why

-- what is stored is the text of a run by a book, with this mark and these events
pub record IsMarkedText (stored : List ℕ) (mark : Mark) (events : List Event) : Type 0 where
  pub short : IsTooLong stored → ⊥
  pub has : HasOwnEvents stored mark events

-- and that book is this one, or was it before answers were added
pub record IsOwnTrace (book : List Entry) (stored : List ℕ) (events : List Event) : Type 0 where
  pub mark : Mark
  pub text : IsMarkedText stored mark events
  pub fits : Fits book mark

-- this book isn't, and that is why; memory may run out of any
abbrev pub IsMisfitCause : List Entry → Mark → OwnCause → Type 0
IsMisfitCause book mark (cause.Another name) = Misfits book mark Another
IsMisfitCause book mark (cause.Shorter entries) = Misfits book mark Shorter × (entries ≡ mark.entries)
IsMisfitCause book mark (cause.Reading fault) = fault ≡ serve.Memory

-- why there is no run by this book: what is stored, or what the book is
abbrev pub IsOwnCause : List Entry → List ℕ → OwnCause → Type 0
IsOwnCause book stored (cause.Reading fault) = IsStoredCause (HasOwnFault stored) stored fault
IsOwnCause book stored why = (mark : Mark) × (events : List Event) × IsMarkedText stored mark events × IsMisfitCause book mark why

-- these events are a run of the graph by this book, and what is told of it and of its end by a check
pub record IsAgain (wake : WakeSet) (check : Option Check) (g : Shape) (book : List Entry) (events : List Event) (ran : BookRun) : Type 0 where
  pub replay : IsReplayBy book RUNNING g wake events ran
  pub told : IsToldBy book RUNNING check g ran

-- a text of such a run
pub record IsAgainText (wake : WakeSet) (check : Option Check) (g : Shape) (book : List Entry) (events : List Event) (end : OwnEnd)
    (output : List ℕ) : Type 0 where
  pub ran : BookRun
  pub again : IsAgain wake check g book events ran
  pub printed : IsPrintedAs (λ text. text ≡ ran.account.items) ran end output

-- they are one that hasn't ended, though no node has stopped
pub record GoesOnOwn (wake : WakeSet) (check : Option Check) (g : Shape) (book : List Entry) (events : List Event) : Type 0 where
  pub ran : BookRun
  pub again : IsAgain wake check g book events ran
  pub cut : IsCutOff ran

-- why there is no text
abbrev pub StopsAgain : WakeSet → Option Check → Shape → List Entry → List Event → ServeFault → Type 0
StopsAgain wake check g book events (serve.NotLawful k) = IsFirstUnlawful (rules_of book RUNNING) g wake events k
StopsAgain wake check g book events serve.NotEnded = GoesOnOwn wake check g book events
StopsAgain wake check g book events serve.Memory = Unit {0}
StopsAgain wake check g book events fault = ⊥

-- what has gone out: all of the text, or only its first bytes, where a write failed; nothing where the events are no run, or one that hasn't ended
abbrev pub HasReplayedOwn : WakeSet → Option Check → Shape → List Entry → List Event → Option (List ℕ) → Option (List ℕ) →
    Result OwnEnd ServeFault → Type 0
HasReplayedOwn wake check g book events old new (Ok end) =
    (output : List ℕ) × IsAgainText wake check g book events end output × HasWritten old new output (length output)
HasReplayedOwn wake check g book events old new (Err (serve.Write written)) =
    (output : List ℕ) × ((end : OwnEnd) × IsAgainText wake check g book events end output) × (written < length output)
    × HasWritten old new output written
HasReplayedOwn wake check g book events old new (Err fault) = StopsAgain wake check g book events fault × (new ≡ old)
