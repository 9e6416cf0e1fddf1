-- The columns of counts of a part's line.
use Rattle.std.specs.Prelude.{ℕ, List, [], ◌∷◌, Some, codes, map}
use Rattle.std.specs.List.{range_with_len}
use Rattle.ghs_choices.specs.declared.by.By.{By}
use Rattle.ghs_choices.specs.declared.by.By.TheVariants.{Node, Level, Rule}
use Rattle.peer_sweep.specs.About.{About}
use Rattle.peer_sweep.specs.Columns.{kind_named}
use Rattle.peer_parts.specs.declared.columns.Column.{Column}

-- the names of the kinds of a protocol's messages
abbrev pub names_of : About → List (List ℕ)
names_of p = map p.kind (range_with_len 0 p.kinds)

-- the column of the kind of messages of this name, which stays empty where the protocol has no such kind
abbrev pub column_of : About → List ℕ → Column
column_of p name = record { name = name; place = kind_named p.kind name p.kinds }

-- the column of how often a row applied
abbrev pub times_column : Column
times_column = record { name = codes "times"; place = Some 0 }

-- by node and by level a column for each name of a kind, by row how often it applied
abbrev pub columns_by : By → About → List (List ℕ) → List Column
columns_by Node p names = map (column_of p) names
columns_by Level p names = map (column_of p) names
columns_by Rule p names = times_column ∷ []
