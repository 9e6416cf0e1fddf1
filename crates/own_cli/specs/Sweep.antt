-- What the program prints of the runs of many seeds by a book.
use Rattle.std.specs.Prelude.{◌≡◌, ◌≢◌, ℕ, ◌+◌, ◌<◌, ◌++◌, true, codes, decimal, length, List, [], Option, Result, Ok, Err}
use Rattle.ghs_choices.specs.declared.check.Check.{Check}
use Rattle.ghs_graph.specs.Graph.{Shape}
use Rattle.ghs_report.specs.Writing.{HasWritten}
use Rattle.own_book.specs.Entry.{Entry}
use Rattle.own_rules.specs.Texts.{kinds_many, kinds_of}
use Rattle.own_rules.specs.declared.protocol.TheConstants.{RUNNING}
use Rattle.own_runs.specs.Sweep.{AreFiguresBy, layout_by}
use Rattle.own_runs.specs.declared.sweep.BookFigures.{BookFigures}
use Rattle.peer_sweep.specs.Front.{bare_front}
use Rattle.peer_sweep.specs.Sweep.{AreRuns}
use Rattle.peer_sweep.specs.declared.figures.Figures.{Figures}
use Rattle.peer_sweep.specs.declared.setup.Setup.{Setup}
use Rattle.ghs_commands.specs.declared.job.SweepOptions.{SweepOptions}
use Rattle.ghs_answers.specs.Sheets.{AreSheetLines, count_of, head_of, setup_of}
use Rattle.ghs_answers.specs.declared.fault.ServeFault.{ServeFault}
use Rattle.ghs_answers.specs.declared.fault.ServeFault.TheVariants as serve
use Rattle.own_cli.specs.declared.run.OwnEnd.{OwnEnd}
use Rattle.own_cli.specs.declared.run.OwnEnd.TheVariants.{Ended, Asks, Fails, Misses}

-- the run by the book that a seed picks, with what a check says of its end
abbrev pub IsSeedOf : List Entry → Option Check → Shape → Setup → ℕ → BookFigures → Type 0
IsSeedOf book check g setup seed x = AreFiguresBy book RUNNING check seed setup.turns g setup.wake x

-- the book lacks no answer in a run, no node has stopped by one, and its end isn't wrong, if it has ended
pub record IsQuiet (x : BookFigures) : Type 0 where
  pub lacking : x.lacking.items ≡ []
  pub faults : x.faults.items ≡ []
  pub right : x.figures.ended ≡ true → x.wrong.items ≡ []

-- a seed's run is so, and these are its figures
pub record IsSoundRun (book : List Entry) (check : Option Check) (g : Shape) (setup : Setup) (seed : ℕ) (f : Figures) : Type 0 where
  pub ran : BookFigures
  pub run : IsSeedOf book check g setup seed ran
  pub quiet : IsQuiet ran
  pub same : f ≡ ran.figures

-- `seed S`: the run whose nodes have stopped
unfoldable pub seed_line : ℕ → List ℕ
seed_line seed = codes "seed " ++ decimal seed ++ codes "\n"

-- what is printed of the run of a seed that isn't sound: the questions that the book lacks, and where it lacks none the seed and what is
-- said of answers, or of a wrong end
abbrev pub IsTroubleOf : ℕ → BookFigures → OwnEnd → List ℕ → Type 0
IsTroubleOf seed x Asks text = (x.lacking.items ≢ []) × (text ≡ x.lacking.items)
IsTroubleOf seed x Fails text = (x.lacking.items ≡ []) × (x.faults.items ≢ []) × (text ≡ seed_line seed ++ x.faults.items)
IsTroubleOf seed x Misses text =
    (x.lacking.items ≡ []) × (x.faults.items ≡ []) × (x.figures.ended ≡ true) × (x.wrong.items ≢ []) × (text ≡ seed_line seed ++ x.wrong.items)
IsTroubleOf seed x Ended text = ⊥

-- the runs before a seed are sound, and its own isn't
pub record IsTroubledAt (book : List Entry) (check : Option Check) (g : Shape) (setup : Setup) (first : ℕ) (runs : List Figures) (end : OwnEnd)
    (output : List ℕ) : Type 0 where
  pub before : AreRuns (IsSoundRun book check) g setup first runs
  pub ran : BookFigures
  pub run : IsSeedOf book check g setup (first + length runs) ran
  pub printed : IsTroubleOf (first + length runs) ran end output

pub record IsTroubledSweep (o : SweepOptions) (check : Option Check) (g : Shape) (book : List Entry) (end : OwnEnd) (output : List ℕ)
    : Type 0 where
  pub runs : List Figures
  pub few : length runs < count_of o
  pub at : IsTroubledAt book check g (setup_of o) o.seeds.first runs end output

-- the runs of all seeds are sound, and the output is their sheet
pub record IsSheetOf (o : SweepOptions) (check : Option Check) (g : Shape) (book : List Entry) (output : List ℕ) : Type 0 where
  pub runs : List Figures
  pub are : AreRuns (IsSoundRun book check) g (setup_of o) o.seeds.first runs
  pub all : length runs ≡ count_of o
  pub lines : List ℕ
  pub sheet : AreSheetLines o.sheet o.form (bare_front o.form) (layout_by book) (setup_of o) o.seeds.first runs lines
  pub printed : output ≡ head_of (layout_by book) o.form o.sheet ++ lines

abbrev pub IsOwnSweep : SweepOptions → Option Check → Shape → List Entry → OwnEnd → List ℕ → Type 0
IsOwnSweep o check g book Ended output = IsSheetOf o check g book output
IsOwnSweep o check g book end output = IsTroubledSweep o check g book end output

-- why nothing is printed: the book has more kinds than figures have places, or memory runs out
abbrev pub HasNoOwnSweep : List Entry → ServeFault → Type 0
HasNoOwnSweep book serve.TooManyKinds = 8 < kinds_many (kinds_of book)
HasNoOwnSweep book serve.Memory = Unit {0}
HasNoOwnSweep book fault = ⊥

-- what has gone out: all of the text, or only its first bytes, where a write failed
abbrev pub HasSweptOwn : SweepOptions → Option Check → Shape → List Entry → Option (List ℕ) → Option (List ℕ) → Result OwnEnd ServeFault → Type 0
HasSweptOwn o check g book old new (Ok end) = (output : List ℕ) × IsOwnSweep o check g book end output × HasWritten old new output (length output)
HasSweptOwn o check g book old new (Err (serve.Write written)) =
    (output : List ℕ) × ((end : OwnEnd) × IsOwnSweep o check g book end output) × (written < length output) × HasWritten old new output written
HasSweptOwn o check g book old new (Err fault) = HasNoOwnSweep book fault × (new ≡ old)
