-- What is printed of the runs of a sweep.
use Rattle.std.specs.Prelude.{◌≡◌, ℕ, ◌+◌, ◌-◌, List, []}
use Rattle.ghs_choices.specs.declared.form.Form.{Form}
use Rattle.ghs_choices.specs.declared.form.Form.TheVariants.{Text, Json}
use Rattle.peer_sweep.specs.declared.figures.Figures.{Figures}
use Rattle.peer_sweep.specs.declared.setup.Setup.{Setup}
use Rattle.peer_sweep.specs.declared.summary.TheConstants.{SUMMARY_HEAD}
use Rattle.peer_sweep.specs.Columns.{Layout}
use Rattle.peer_sweep.specs.Line.{head_line as names_line}
use Rattle.peer_sweep.specs.Lines.{line_behind, run_lines}
use Rattle.peer_sweep.specs.Summary.{AreSummaryLines}
use Rattle.ghs_commands.specs.declared.job.Sheet.{Sheet}
use Rattle.ghs_commands.specs.declared.job.Sheet.TheVariants.{Chart, Runs, Summary}
use Rattle.ghs_commands.specs.declared.job.SweepOptions.{SweepOptions}

-- what the runs of a sweep have in common
abbrev pub setup_of : SweepOptions → Setup
setup_of o = record { schedule_kind = o.schedule_kind; wake = o.wake; turns = o.turns }

-- how many runs it has: one for each seed
abbrev pub count_of : SweepOptions → ℕ
count_of o = o.seeds.last - o.seeds.first + 1

-- the names of the columns; lines of JSON say them with each value
abbrev pub head_of : Layout → Form → Sheet → List ℕ
head_of l Text Runs = names_line l
head_of l Text Summary = SUMMARY_HEAD.now
head_of l Text Chart = []
head_of l Json sheet = []

-- what is printed of runs whose seeds rise from the first on: a line for each of them, or their summary, each line behind a front; a
-- chart has no lines
abbrev pub AreSheetLines : Sheet → Form → List ℕ → Layout → Setup → ℕ → List Figures → List ℕ → Type 0
AreSheetLines Runs form front l setup first runs lines = lines ≡ run_lines (line_behind form front l setup) first runs
AreSheetLines Summary form front l setup first runs lines = AreSummaryLines form front runs l.columns lines
AreSheetLines Chart form front l setup first runs lines = lines ≡ []
