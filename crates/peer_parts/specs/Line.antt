-- The line of a part of a run, as comma separated values and as an object of JSON whose members are named as the columns.
use Rattle.std.specs.Prelude.{ℕ, List, [], ◌++◌, Option, Some, None, codes, decimal, slice_get}
use Rattle.std.specs.List.{flat_map}
use Rattle.ghs_report.specs.Fields.{field}
use Rattle.peer_words.specs.declared.value.Said.{Said}
use Rattle.peer_words.specs.Json.{member, next, said_member}
use Rattle.peer_words.specs.Text.{value_text}
use Rattle.ghs_choices.specs.declared.by.By.{By}
use Rattle.ghs_choices.specs.declared.by.By.TheVariants.{Node, Level, Rule}
use Rattle.ghs_choices.specs.declared.form.Form.{Form}
use Rattle.ghs_choices.specs.declared.form.Form.TheVariants.{Text, Json}
use Rattle.peer_parts.specs.declared.columns.Column.{Column}

-- the count that a column shows, if it shows one
abbrev pub shown : List ℕ → Option ℕ → Option ℕ
shown counts None = None
shown counts (Some k) = slice_get counts k

-- a field that is empty where there is no count, and no member there
abbrev pub count_field : Option ℕ → List ℕ
count_field None = codes ","
count_field (Some n) = field n

abbrev pub count_member : List ℕ → Option ℕ → List ℕ
count_member name None = []
count_member name (Some n) = next name (decimal n)

abbrev pub column_field : List ℕ → Column → List ℕ
column_field counts c = count_field (shown counts c.place)

abbrev pub column_member : List ℕ → Column → List ℕ
column_member counts c = count_member c.name (shown counts c.place)

-- the seed, the part, and a field for each column
unfoldable pub line_text : ℕ → Said → List Column → List ℕ → List ℕ
line_text seed part columns counts =
    decimal seed ++ codes "," ++ value_text part.value ++ flat_map (column_field counts) columns ++ codes "\n"

-- what stands in the object behind its front
unfoldable pub json_text : ℕ → Said → List Column → List ℕ → List ℕ
json_text seed part columns counts =
    member [] (codes "seed") (decimal seed) ++ said_member part ++ flat_map (column_member counts) columns ++ codes "}\n"

-- the line of a part behind a front
abbrev pub line_behind : Form → List ℕ → ℕ → List Column → Said → List ℕ → List ℕ
line_behind Text front seed columns part counts = front ++ line_text seed part columns counts
line_behind Json front seed columns part counts = front ++ json_text seed part columns counts

-- what a part is called
abbrev pub part_word : By → List ℕ
part_word Node = codes "node"
part_word Level = codes "level"
part_word Rule = codes "rule"

abbrev pub column_name : Column → List ℕ
column_name c = codes "," ++ c.name

-- the names of the fields, as a line
unfoldable pub head_line : By → List Column → List ℕ
head_line by columns = codes "seed," ++ part_word by ++ flat_map column_name columns ++ codes "\n"
