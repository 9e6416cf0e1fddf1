-- A run's figures as a line.
use Rattle.std.specs.Prelude.{ℕ, List, ◌++◌, Option, Some, None, codes, decimal}
use Rattle.std.specs.List.{flat_map}
use Rattle.ghs_choices.specs.declared.schedule_kind.ScheduleKind.{ScheduleKind}
use Rattle.ghs_choices.specs.declared.schedule_kind.ScheduleKind.TheVariants.{Seeded, Patient, Rounds, Waits, Lifo, RoundRobin}
use Rattle.ghs_report.specs.Fields.{end_word, field, wake_word, word_field}
use Rattle.peer_sweep.specs.declared.column.Column.{Column}
use Rattle.peer_sweep.specs.declared.figures.Figures.{Figures}
use Rattle.peer_sweep.specs.declared.line.TheConstants.{START}
use Rattle.peer_sweep.specs.declared.measure.Measure.{Measure}
use Rattle.peer_sweep.specs.declared.measure.Measure.TheVariants.{Halted}
use Rattle.peer_sweep.specs.declared.setup.Setup.{Setup}
use Rattle.peer_sweep.specs.Columns.{Layout}
use Rattle.peer_sweep.specs.Measure.{value_of}

abbrev pub schedule_word : ScheduleKind → List ℕ
schedule_word Seeded = codes "seeded"
schedule_word Patient = codes "patient"
schedule_word Rounds = codes "rounds"
schedule_word Waits = codes "waits"
schedule_word Lifo = codes "lifo"
schedule_word RoundRobin = codes "round-robin"

-- the name of a column behind those before it
unfoldable pub column_name : Column → List ℕ
column_name c = codes "," ++ c.name

-- the names of the columns
unfoldable pub head_line : Layout → List ℕ
head_line l = START.now ++ flat_map column_name l.columns ++ codes "\n"

-- a field that is empty where there is no number
abbrev pub number_field : Option ℕ → List ℕ
number_field None = codes ","
number_field (Some n) = field n

-- what a run has of a measure: how it ended in a word, all others as numbers
abbrev pub measure_field : Figures → Measure → List ℕ
measure_field f Halted = word_field (end_word f.ended)
measure_field f m = number_field (value_of m f)

abbrev pub column_field : Figures → Column → List ℕ
column_field f c = measure_field f c.measure

-- seed, protocol, schedule and wake set
unfoldable pub head_fields : List ℕ → ℕ → Setup → List ℕ
head_fields protocol seed setup =
    decimal seed ++ word_field protocol ++ word_field (schedule_word setup.schedule_kind) ++ word_field (wake_word setup.wake)

-- these, nodes and links, and a field for each column
unfoldable pub line_text : Layout → ℕ → Setup → Figures → List ℕ
line_text l seed setup f =
    head_fields l.protocol seed setup
    ++ field f.nodes
    ++ field f.links
    ++ flat_map (column_field f) l.columns
    ++ codes "\n"
