-- A run's figures as a line of JSON: an object whose members are named as the columns.
use Rattle.std.specs.Prelude.{ℕ, List, [], ◌++◌, Option, Some, None, codes, decimal}
use Rattle.std.specs.List.{flat_map}
use Rattle.ghs_report.specs.Fields.{end_word, wake_word}
use Rattle.peer_words.specs.Json.{member, quoted}
use Rattle.peer_sweep.specs.declared.column.Column.{Column}
use Rattle.peer_sweep.specs.declared.figures.Figures.{Figures}
use Rattle.peer_sweep.specs.declared.measure.Measure.{Measure}
use Rattle.peer_sweep.specs.declared.measure.Measure.TheVariants.{Halted}
use Rattle.peer_sweep.specs.declared.setup.Setup.{Setup}
use Rattle.peer_sweep.specs.Columns.{Layout}
use Rattle.peer_sweep.specs.Line.{schedule_word}
use Rattle.peer_sweep.specs.Measure.{value_of}

-- a member that isn't the first, and a number
unfoldable pub numbered : List ℕ → ℕ → List ℕ
numbered name n = member (codes ",") name (decimal n)

-- a member that isn't the first, and a word
unfoldable pub worded : List ℕ → List ℕ → List ℕ
worded name word = member (codes ",") name (quoted word)

-- no member where there is no number
abbrev pub number_member : List ℕ → Option ℕ → List ℕ
number_member name None = []
number_member name (Some n) = numbered name n

-- what a run has of a measure: how it ended in a word, all others as numbers
abbrev pub measure_member : Figures → List ℕ → Measure → List ℕ
measure_member f name Halted = worded name (end_word f.ended)
measure_member f name m = number_member name (value_of m f)

abbrev pub column_member : Figures → Column → List ℕ
column_member f c = measure_member f c.name c.measure

-- seed, protocol, schedule and wake set
unfoldable pub head_members : List ℕ → ℕ → Setup → List ℕ
head_members protocol seed setup =
    member [] (codes "seed") (decimal seed)
    ++ worded (codes "protocol") protocol
    ++ worded (codes "schedule") (schedule_word setup.schedule_kind)
    ++ worded (codes "wake") (wake_word setup.wake)

-- what stands in the object behind its front
unfoldable pub json_text : Layout → ℕ → Setup → Figures → List ℕ
json_text l seed setup f =
    head_members l.protocol seed setup
    ++ numbered (codes "nodes") f.nodes
    ++ numbered (codes "links") f.links
    ++ flat_map (column_member f) l.columns
    ++ codes "}\n"
