-- What the program prints of all runs of a small network by a book.
use Rattle.std.specs.Prelude.{◌≡◌, ℕ, ◌<◌, ◌-◌, ◌++◌, codes, length, List, Option, None, Some, Result, Ok, Err}
use Rattle.std.specs.Global.{Vec}
use Rattle.ghs_choices.specs.declared.check.Check.{Check}
use Rattle.ghs_graph.specs.Graph.{Shape}
use Rattle.ghs_report.specs.Writing.{HasWritten}
use Rattle.own_book.specs.Entry.{Entry}
use Rattle.own_rules.specs.Rules.{rules_of}
use Rattle.own_rules.specs.Texts.{kinds_many, kinds_of}
use Rattle.own_rules.specs.declared.protocol.TheConstants.{EXPLORING}
use Rattle.own_runs.specs.Explore.{IsExploredBy}
use Rattle.own_runs.specs.Mark.{mark_of}
use Rattle.own_runs.specs.declared.explore.BookEnds.{BookEnds}
use Rattle.own_runs.specs.declared.explore.BookExplored.{BookExplored}
use Rattle.own_runs.specs.declared.explore.BookExplored.TheVariants as told
use Rattle.peer_explore.specs.States.{HasMoreStates}
use Rattle.peer_machine.specs.Explorable.{IsSmall}
use Rattle.peer_network.specs.declared.event.Event.{Event}
use Rattle.peer_trace.specs.Text.{own_text}
use Rattle.ghs_commands.specs.declared.exploring.ExploreOptions.{ExploreOptions}
use Rattle.ghs_commands.specs.declared.exploring.Finding.{Finding}
use Rattle.ghs_commands.specs.declared.exploring.Finding.TheVariants.{Ends, Run}
use Rattle.ghs_answers.specs.declared.fault.ServeFault.{ServeFault}
use Rattle.ghs_answers.specs.declared.fault.ServeFault.TheVariants as serve
use Rattle.own_cli.specs.declared.run.OwnEnd.{OwnEnd}
use Rattle.own_cli.specs.declared.run.OwnEnd.TheVariants as end

-- the place of the row whose run is asked for
abbrev pub row_asked : Finding → ℕ → Option ℕ
row_asked Ends k = None
row_asked Run k = Some (k - 1)

-- what stands between what is said of answers, or of an end, and the events of a run that leads there
abbrev pub leads_there : List ℕ
leads_there = codes "an order that leads there:\n"

-- what is said of a run that can't be brought to an end
abbrev pub never_ends : List ℕ
never_ends = codes "endless: from here no run ends\n"

-- the events of a run, where there is one
abbrev pub IsTraceOf : List Entry → Option (Vec Event) → List ℕ → Type 0
IsTraceOf book None text = ⊥
IsTraceOf book (Some events) text = text ≡ own_text (mark_of book) events.items

-- with which counts the runs end, or the events of the run that is asked for
abbrev pub IsFoundOwn : Finding → List Entry → BookEnds → List ℕ → Type 0
IsFoundOwn Ends book x text = text ≡ x.text.items
IsFoundOwn Run book x text = IsTraceOf book x.run text

-- how that ends, and what is printed
abbrev pub IsToldAs : Finding → List Entry → BookExplored → OwnEnd → List ℕ → Type 0
IsToldAs finding book (told.Lacks questions) e text = (e ≡ end.Asks) × (text ≡ questions.items)
IsToldAs finding book (told.Fails f) e text =
    (e ≡ end.Fails) × (text ≡ f.text.items ++ leads_there ++ own_text (mark_of book) f.events.items)
IsToldAs finding book (told.Endless events) e text =
    (e ≡ end.Misses) × (text ≡ never_ends ++ leads_there ++ own_text (mark_of book) events.items)
IsToldAs finding book (told.Misses f) e text =
    (e ≡ end.Misses) × (text ≡ f.text.items ++ leads_there ++ own_text (mark_of book) f.events.items)
IsToldAs finding book (told.Whole x) e text = (e ≡ end.Ended) × IsFoundOwn finding book x text

-- it is told of all runs of the graph by the book
abbrev pub IsToldBy : ExploreOptions → Option Check → Shape → List Entry → BookExplored → Type 0
IsToldBy o check g book x = IsExploredBy book EXPLORING check g o.wake (row_asked o.finding o.end) x

pub record IsOwnExploration (o : ExploreOptions) (check : Option Check) (g : Shape) (book : List Entry) (e : OwnEnd) (output : List ℕ)
    : Type 0 where
  pub told : BookExplored
  pub is : IsToldBy o check g book told
  pub printed : IsToldAs o.finding book told e output

-- there are no more rows than these
pub record IsNoRow (o : ExploreOptions) (check : Option Check) (g : Shape) (book : List Entry) (rows : ℕ) : Type 0 where
  pub found : BookEnds
  pub is : IsToldBy o check g book (told.Whole found)
  pub none : found.run ≡ None
  pub number : rows ≡ length found.rows.items

-- why nothing is printed; the numbers of the search or memory may run out of any
abbrev pub HasNoOwnExploration : ExploreOptions → Option Check → Shape → List Entry → ServeFault → Type 0
HasNoOwnExploration o check g book serve.TooManyKinds = 8 < kinds_many (kinds_of book)
HasNoOwnExploration o check g book serve.TooLargeToExplore = IsSmall g → ⊥
HasNoOwnExploration o check g book (serve.StateLimit most) = (most ≡ o.limit) × HasMoreStates (rules_of book EXPLORING) g o.wake o.limit
HasNoOwnExploration o check g book (serve.NoSuchEnd rows) = IsNoRow o check g book rows
HasNoOwnExploration o check g book serve.PartLimit = Unit {0}
HasNoOwnExploration o check g book serve.Memory = Unit {0}
HasNoOwnExploration o check g book fault = ⊥

-- what has gone out: all of the text, or only its first bytes, where a write failed
abbrev pub HasExploredOwn : ExploreOptions → Option Check → Shape → List Entry → Option (List ℕ) → Option (List ℕ) →
    Result OwnEnd ServeFault → Type 0
HasExploredOwn o check g book old new (Ok e) =
    (output : List ℕ) × IsOwnExploration o check g book e output × HasWritten old new output (length output)
HasExploredOwn o check g book old new (Err (serve.Write written)) =
    (output : List ℕ) × ((e : OwnEnd) × IsOwnExploration o check g book e output) × (written < length output) × HasWritten old new output written
HasExploredOwn o check g book old new (Err fault) = HasNoOwnExploration o check g book fault × (new ≡ old)
