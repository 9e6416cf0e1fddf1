-- What the program prints of a run by a book, and how that ends.
use Rattle.std.specs.Prelude.{◌≡◌, ◌≢◌, ◌⊎◌, ℕ, ◌<◌, false, true, length, List, [], Option, None, Some, Result, Ok, Err}
use Rattle.ghs_answers.specs.Timing.{timed_text}
use Rattle.ghs_choices.specs.declared.check.Check.{Check}
use Rattle.ghs_choices.specs.declared.schedule_kind.ScheduleKind.TheVariants.{Seeded}
use Rattle.ghs_graph.specs.Graph.{Shape}
use Rattle.ghs_report.specs.Writing.{HasWritten}
use Rattle.own_book.specs.Entry.{Entry}
use Rattle.own_rules.specs.Rules.{rules_of}
use Rattle.own_rules.specs.Run.{IsRunBy, IsToldBy, StandsBy}
use Rattle.own_rules.specs.declared.protocol.TheConstants.{RUNNING}
use Rattle.own_rules.specs.declared.run.BookRun.{BookRun}
use Rattle.own_runs.specs.Mark.{mark_of}
use Rattle.peer_network.specs.declared.wake_set.WakeSet.{WakeSet}
use Rattle.peer_trace.specs.Text.{own_text}
use Rattle.ghs_commands.specs.declared.job.RunOptions.{RunOptions}
use Rattle.ghs_commands.specs.declared.job.Show.{Show}
use Rattle.ghs_commands.specs.declared.job.Show.TheVariants.{Summary, Events, Time}
use Rattle.ghs_answers.specs.declared.fault.ServeFault.{ServeFault}
use Rattle.ghs_answers.specs.declared.fault.ServeFault.TheVariants as serve
use Rattle.own_cli.specs.declared.run.OwnEnd.{OwnEnd}
use Rattle.own_cli.specs.declared.run.OwnEnd.TheVariants.{Ended, Asks, Fails, Misses}

abbrev pub own_status : OwnEnd → ℕ
own_status Ended = 0
own_status Asks = 7
own_status Fails = 8
own_status Misses = 9

-- the run by this book that a seed picks, and what is told of it and of its end by a check
pub record IsSeedsRun (seed turns : ℕ) (wake : WakeSet) (check : Option Check) (g : Shape) (book : List Entry) (ran : BookRun) : Type 0 where
  pub run : IsRunBy book RUNNING seed turns g wake ran.events.items
  pub stands : StandsBy book RUNNING turns g wake ran.events.items ran.at_limit
  pub told : IsToldBy book RUNNING check g ran

-- that of the options
abbrev pub IsOwnRun : RunOptions → Option Check → Shape → List Entry → BookRun → Type 0
IsOwnRun o = IsSeedsRun o.seed o.turns o.wake

-- how it ends: with questions that the book lacks; where it lacks none, with what is said of answers; where that is nothing, since no event may
-- happen, with what a check says, or as it has to
abbrev pub IsOwnEnd : BookRun → OwnEnd → Type 0
IsOwnEnd ran Asks = ran.lacking.items ≢ []
IsOwnEnd ran Fails = (ran.lacking.items ≡ []) × (ran.faults.items ≢ [])
IsOwnEnd ran Misses = (ran.lacking.items ≡ []) × (ran.faults.items ≡ []) × (ran.at_limit ≡ false) × (ran.wrong.items ≢ [])
IsOwnEnd ran Ended = (ran.lacking.items ≡ []) × (ran.faults.items ≡ []) × (ran.at_limit ≡ false) × (ran.wrong.items ≡ [])

-- it has none of these ends
pub record IsCutOff (ran : BookRun) : Type 0 where
  pub lacking : ran.lacking.items ≡ []
  pub faults : ran.faults.items ≡ []
  pub limit : ran.at_limit ≡ true

-- what is printed of it: the questions, what is said of answers or by the check, or what shows a run that has ended
abbrev pub IsPrintedAs : (List ℕ → Type 0) → BookRun → OwnEnd → List ℕ → Type 0
IsPrintedAs Shows ran Asks text = IsOwnEnd ran Asks × (text ≡ ran.lacking.items)
IsPrintedAs Shows ran Fails text = IsOwnEnd ran Fails × (text ≡ ran.faults.items)
IsPrintedAs Shows ran Misses text = IsOwnEnd ran Misses × (text ≡ ran.wrong.items)
IsPrintedAs Shows ran Ended text = IsOwnEnd ran Ended × Shows text

-- what shows it: its events, whose head says which book they go by, or its time, where they are asked for, and else its account
abbrev pub IsShownOwn : Show → List Entry → Shape → BookRun → List ℕ → Type 0
IsShownOwn Summary book g ran text = text ≡ ran.account.items
IsShownOwn Events book g ran text = text ≡ own_text (mark_of book) ran.events.items
IsShownOwn Time book g ran text = text ≡ timed_text (rules_of book RUNNING) Seeded g ran.events.items

-- what goes out of a run that ends so; or of one whose turns are used, where its events are asked for
abbrev pub IsOutputOf : Show → List Entry → Shape → BookRun → Option OwnEnd → List ℕ → Type 0
IsOutputOf show book g ran (Some end) text = IsPrintedAs (IsShownOwn show book g ran) ran end text
IsOutputOf show book g ran None text = IsCutOff ran × (show ≡ Events) × (text ≡ own_text (mark_of book) ran.events.items)

-- why nothing does: its turns are used, where its events aren't asked for, or memory runs out
abbrev pub StopsOutput : Show → BookRun → ServeFault → Type 0
StopsOutput show ran serve.TurnLimit = IsCutOff ran × (show ≢ Events)
StopsOutput show ran serve.Memory = Unit {0}
StopsOutput show ran fault = ⊥

-- the output is that of the run by this book
pub record IsOwnOutput (o : RunOptions) (check : Option Check) (g : Shape) (book : List Entry) (end : Option OwnEnd) (output : List ℕ)
    : Type 0 where
  pub ran : BookRun
  pub run : IsOwnRun o check g book ran
  pub printed : IsOutputOf o.show book g ran end output

-- nothing goes out of it, since its turns are used
pub record IsOwnCutOff (o : RunOptions) (check : Option Check) (g : Shape) (book : List Entry) : Type 0 where
  pub ran : BookRun
  pub run : IsOwnRun o check g book ran
  pub stops : StopsOutput o.show ran serve.TurnLimit

-- why nothing goes out
abbrev pub StopsOwn : RunOptions → Option Check → Shape → List Entry → ServeFault → Type 0
StopsOwn o check g book serve.TurnLimit = IsOwnCutOff o check g book
StopsOwn o check g book serve.Memory = Unit {0}
StopsOwn o check g book fault = ⊥

-- what has gone out: all of the text, or only its first bytes, where a write failed; where the turns are used the events, if they are asked for,
-- and else nothing
abbrev pub HasRunOwn : RunOptions → Option Check → Shape → List Entry → Option (List ℕ) → Option (List ℕ) → Result OwnEnd ServeFault → Type 0
HasRunOwn o check g book old new (Ok end) =
    (output : List ℕ) × IsOwnOutput o check g book (Some end) output × HasWritten old new output (length output)
HasRunOwn o check g book old new (Err (serve.Write written)) =
    (output : List ℕ) × ((end : Option OwnEnd) × IsOwnOutput o check g book end output) × (written < length output)
    × HasWritten old new output written
HasRunOwn o check g book old new (Err serve.TurnLimit) =
    ((output : List ℕ) × IsOwnOutput o check g book None output × HasWritten old new output (length output))
    ⊎ (IsOwnCutOff o check g book × (new ≡ old))
HasRunOwn o check g book old new (Err serve.Memory) = new ≡ old
HasRunOwn o check g book old new (Err fault) = ⊥
