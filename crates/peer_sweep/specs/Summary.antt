-- What the figures of many runs come to.
use Rattle.std.specs.Prelude.{◌≡◌, ℕ, ◌+◌, ◌-◌, ◌*◌, ◌/◌, Bool, List, [], ◌∷◌, ◌++◌, Option, Some, None, codes, length, slice_index, IsPermutation, if◌then◌else◌}
use Rattle.std.specs.List.{flat_map, sum}
use Rattle.std.specs.List.Sorted.{IsNonDecreasing}
use Rattle.ghs_choices.specs.declared.form.Form.{Form}
use Rattle.ghs_choices.specs.declared.form.Form.TheVariants.{Text, Json}
use Rattle.ghs_report.specs.Fields.{field}
use Rattle.peer_words.specs.Json.{member, quoted}
use Rattle.peer_sweep.specs.declared.column.Column.{Column}
use Rattle.peer_sweep.specs.declared.figures.Figures.{Figures}
use Rattle.peer_sweep.specs.declared.measure.Measure.{Measure}
use Rattle.peer_sweep.specs.declared.measure.Measure.TheVariants.{Halted}
use Rattle.peer_sweep.specs.JsonLine.{numbered}
use Rattle.peer_sweep.specs.Measure.{value_of}

-- the same numbers in rising order
pub record IsRising (values rising : List ℕ) : Type 0 where
  pub same : IsPermutation values rising
  pub order : IsNonDecreasing rising

-- the place of a percentile among so many numbers, counted from 1: p hundredths of them, rounded up
abbrev pub place_of : ℕ → ℕ → ℕ
place_of p count = (p * count + 99) / 100

-- the percentile of rising numbers: the one at its place
abbrev pub percentile : ℕ → List ℕ → ℕ
percentile p rising = slice_index rising (place_of p (length rising) - 1)

abbrev pub listed : Option ℕ → List ℕ
listed None = []
listed (Some n) = n ∷ []

-- the values of a measure for those of the runs that have it
abbrev pub values_of : Measure → List Figures → List ℕ
values_of m runs = flat_map (λ f. listed (value_of m f)) runs

-- its name in a summary: that of its column, but what a line says of the run's end is counted here
abbrev pub measure_name : Column → Measure → List ℕ
measure_name c Halted = codes "halted"
measure_name c m = c.name

abbrev pub name_of : Column → List ℕ
name_of c = measure_name c c.measure

-- 1 for what is fixed, and 0 for what may vary
abbrev pub fixed_value : Bool → ℕ
fixed_value b = if b then 1 else 0

-- how many there are, the least, four percentiles, and the greatest
unfoldable pub rising_fields : List ℕ → List ℕ
rising_fields rising =
    field (length rising)
    ++ field (slice_index rising 0)
    ++ field (percentile 25 rising)
    ++ field (percentile 50 rising)
    ++ field (percentile 75 rising)
    ++ field (percentile 95 rising)
    ++ field (slice_index rising (length rising - 1))

-- a measure as a line: its name, what its values come to in rising order, their sum, and whether it is the graph's
unfoldable pub measure_fields : Column → List ℕ → ℕ → List ℕ
measure_fields c rising total = name_of c ++ rising_fields rising ++ field total ++ field (fixed_value c.is_fixed) ++ codes "\n"

-- what they come to, as members of an object: how many there are, the least, and two percentiles; two more, and the greatest
unfoldable pub low_members : List ℕ → List ℕ
low_members rising =
    numbered (codes "runs") (length rising)
    ++ numbered (codes "min") (slice_index rising 0)
    ++ numbered (codes "p25") (percentile 25 rising)
    ++ numbered (codes "p50") (percentile 50 rising)

unfoldable pub high_members : List ℕ → List ℕ
high_members rising =
    numbered (codes "p75") (percentile 75 rising)
    ++ numbered (codes "p95") (percentile 95 rising)
    ++ numbered (codes "max") (slice_index rising (length rising - 1))

-- the same as a line of JSON
unfoldable pub measure_members : Column → List ℕ → ℕ → List ℕ
measure_members c rising total =
    member [] (codes "measure") (quoted (name_of c))
    ++ low_members rising
    ++ high_members rising
    ++ numbered (codes "sum") total
    ++ numbered (codes "fixed") (fixed_value c.is_fixed)
    ++ codes "}\n"

abbrev pub measure_text : Form → Column → List ℕ → ℕ → List ℕ
measure_text Text c rising total = measure_fields c rising total
measure_text Json c rising total = measure_members c rising total

-- the line behind a front; there is none where no run has the measure
abbrev pub measure_line : Form → List ℕ → Column → List ℕ → ℕ → List ℕ
measure_line form front c [] total = []
measure_line form front c (v ∷ vs) total = front ++ measure_text form c (v ∷ vs) total

-- the line of a column's measure, with what its values for the runs come to
pub record IsMeasureLine (form : Form) (front : List ℕ) (runs : List Figures) (c : Column) (line : List ℕ) : Type 0 where
  pub rising : List ℕ
  pub rises : IsRising (values_of c.measure runs) rising
  pub text : line ≡ measure_line form front c rising (sum (values_of c.measure runs))

-- the summary of runs: the lines of the measures of some columns, one behind another, each behind the same front
pub data AreSummaryLines (form : Form) (front : List ℕ) (runs : List Figures) : List Column → List ℕ → Type 0 where
  NoMeasure : AreSummaryLines form front runs [] []
  NextMeasure : (cs : List Column) (c : Column) (text line : List ℕ) → AreSummaryLines form front runs cs text →
      IsMeasureLine form front runs c line → AreSummaryLines form front runs (cs ++ c ∷ []) (text ++ line)
