-- What the program prints of the pages of runs by a book.
use Rattle.std.specs.Prelude.{◌≡◌, ◌≢◌, ◌⊎◌, ℕ, ◌<◌, length, List, [], Option, None, Some, Result, Ok, Err}
use Rattle.ghs_graph.specs.Graph.{Shape}
use Rattle.ghs_report.specs.Writing.{HasWritten}
use Rattle.own_book.specs.Entry.{Entry}
use Rattle.own_rules.specs.Rules.{rules_of}
use Rattle.own_rules.specs.declared.protocol.TheConstants.{RUNNING}
use Rattle.own_rules.specs.declared.run.BookRun.{BookRun}
use Rattle.peer_network.specs.declared.event.Event.{Event}
use Rattle.peer_page.specs.Limits.{IsPairTooLarge, IsTooLarge}
use Rattle.own_view.specs.Page.{IsPageBy, IsPairBy}
use Rattle.ghs_commands.specs.declared.job.StoredViewOptions.{StoredViewOptions}
use Rattle.ghs_commands.specs.declared.job.ViewOptions.{ViewOptions}
use Rattle.ghs_answers.specs.StoredView.{HasNoStoredView, IsStoredView}
use Rattle.ghs_answers.specs.declared.fault.ServeFault.{ServeFault}
use Rattle.ghs_answers.specs.declared.fault.ServeFault.TheVariants as serve
use Rattle.own_cli.specs.Run.{IsSeedsRun}
use Rattle.own_cli.specs.declared.run.OwnEnd.{OwnEnd}
use Rattle.own_cli.specs.declared.run.OwnEnd.TheVariants.{Ended, Asks, Fails}

-- the book lacks no answer in the run, and no node has stopped by one
pub record IsSound (ran : BookRun) : Type 0 where
  pub lacking : ran.lacking.items ≡ []
  pub faults : ran.faults.items ≡ []

-- what keeps a run from having a page: the questions that the book lacks, and where it lacks none what is said of answers
abbrev pub IsTrouble : BookRun → OwnEnd → List ℕ → Type 0
IsTrouble ran Asks text = (ran.lacking.items ≢ []) × (text ≡ ran.lacking.items)
IsTrouble ran Fails text = (ran.lacking.items ≡ []) × (ran.faults.items ≢ []) × (text ≡ ran.faults.items)
IsTrouble ran other text = ⊥

-- the run that a seed of the options picks
abbrev pub IsShownRun : ViewOptions → ℕ → Shape → List Entry → BookRun → Type 0
IsShownRun o seed = IsSeedsRun seed o.turns o.wake None

-- what goes out of the view of one run, to its end or to its last turn
pub record IsOneView (o : ViewOptions) (g : Shape) (book : List Entry) (end : OwnEnd) (output : List ℕ) : Type 0 where
  pub ran : BookRun
  pub run : IsShownRun o o.seed g book ran
  pub printed : IsTrouble ran end output ⊎ ((end ≡ Ended) × IsSound ran × IsPageBy book RUNNING g ran.events.items o.from o.to output)

-- of two, where the trouble of the first comes first
abbrev pub IsPairTrouble : BookRun → BookRun → OwnEnd → List ℕ → Type 0
IsPairTrouble first second end output = IsTrouble first end output ⊎ (IsSound first × IsTrouble second end output)

pub record IsTwoView (o : ViewOptions) (beside : ℕ) (g : Shape) (book : List Entry) (end : OwnEnd) (output : List ℕ) : Type 0 where
  pub first : BookRun
  pub run : IsShownRun o o.seed g book first
  pub second : BookRun
  pub other : IsShownRun o beside g book second
  pub printed :
      IsPairTrouble first second end output
      ⊎ ((end ≡ Ended) × IsSound first × IsSound second × IsPairBy book RUNNING g first.events.items second.events.items o.from o.to output)

abbrev pub IsViewBy : Option ℕ → ViewOptions → Shape → List Entry → OwnEnd → List ℕ → Type 0
IsViewBy None o g book = IsOneView o g book
IsViewBy (Some beside) o g book = IsTwoView o beside g book

abbrev pub IsOwnView : ViewOptions → Shape → List Entry → OwnEnd → List ℕ → Type 0
IsOwnView o = IsViewBy o.beside o

-- why nothing does: a page is too large, or memory runs out
pub record IsOneTooLarge (o : ViewOptions) (g : Shape) (book : List Entry) : Type 0 where
  pub ran : BookRun
  pub run : IsShownRun o o.seed g book ran
  pub large : IsTooLarge g ran.events.items o.to

pub record IsTwoTooLarge (o : ViewOptions) (beside : ℕ) (g : Shape) (book : List Entry) : Type 0 where
  pub first : BookRun
  pub run : IsShownRun o o.seed g book first
  pub second : BookRun
  pub other : IsShownRun o beside g book second
  pub large : IsPairTooLarge g first.events.items second.events.items o.to

abbrev pub IsLargeBy : Option ℕ → ViewOptions → Shape → List Entry → Type 0
IsLargeBy None o g book = IsOneTooLarge o g book
IsLargeBy (Some beside) o g book = IsTwoTooLarge o beside g book

abbrev pub HasNoOwnView : ViewOptions → Shape → List Entry → ServeFault → Type 0
HasNoOwnView o g book serve.PageTooLarge = IsLargeBy o.beside o g book
HasNoOwnView o g book serve.Memory = Unit {0}
HasNoOwnView o g book fault = ⊥

-- what has gone out: all of the text, or only its first bytes, where a write failed
abbrev pub HasViewedOwn : ViewOptions → Shape → List Entry → Option (List ℕ) → Option (List ℕ) → Result OwnEnd ServeFault → Type 0
HasViewedOwn o g book old new (Ok end) = (output : List ℕ) × IsOwnView o g book end output × HasWritten old new output (length output)
HasViewedOwn o g book old new (Err (serve.Write written)) =
    (output : List ℕ) × ((end : OwnEnd) × IsOwnView o g book end output) × (written < length output) × HasWritten old new output written
HasViewedOwn o g book old new (Err fault) = HasNoOwnView o g book fault × (new ≡ old)

-- the page of a stored run, which needn't have ended
abbrev pub IsStoredOwnView : StoredViewOptions → Shape → List Entry → List Event → List ℕ → Type 0
IsStoredOwnView o g book = IsStoredView (rules_of book RUNNING) (IsPageBy book RUNNING) o g

abbrev pub HasStoredOwnView : StoredViewOptions → Shape → List Entry → List Event → Option (List ℕ) → Option (List ℕ) →
    Result (Unit {0}) ServeFault → Type 0
HasStoredOwnView o g book events old new (Ok u) =
    (output : List ℕ) × IsStoredOwnView o g book events output × HasWritten old new output (length output)
HasStoredOwnView o g book events old new (Err (serve.Write written)) =
    (output : List ℕ) × IsStoredOwnView o g book events output × (written < length output) × HasWritten old new output written
HasStoredOwnView o g book events old new (Err fault) = HasNoStoredView (rules_of book RUNNING) o g events fault × (new ≡ old)
