-- The lines of a run by parts.
use Rattle.std.specs.Prelude.{ℕ, ◌+◌, List, [], ◌∷◌, ◌++◌, codes}
use Rattle.std.specs.List.{flat_map}
use Rattle.ghs_choices.specs.declared.form.Form.{Form}
use Rattle.peer_words.specs.declared.value.Said.{Said}
use Rattle.peer_words.specs.declared.value.Value.TheVariants.{Number, Word}
use Rattle.peer_parts.specs.declared.columns.Column.{Column}
use Rattle.peer_parts.specs.declared.rows.RowCount.{RowCount}
use Rattle.peer_parts.specs.Line.{line_behind}

-- lines of what has numbers that rise from the first on
abbrev pub numbered_lines : {A : Type 0} → (ℕ → A → List ℕ) → ℕ → List A → List ℕ
numbered_lines line first [] = []
numbered_lines line first (x ∷ xs) = line first x ++ numbered_lines line (first + 1) xs

-- a node as a part, and a row
abbrev pub node_part : ℕ → Said
node_part v = record { name = codes "node"; value = Number v }

abbrev pub row_part : List ℕ → Said
row_part row = record { name = codes "rule"; value = Word row }

module _ (form : Form) (front : List ℕ) (seed : ℕ) (columns : List Column) where
  abbrev pub node_line : ℕ → List ℕ → List ℕ
  node_line v counts = line_behind form front seed columns (node_part v) counts

  abbrev pub row_line : RowCount → List ℕ
  row_line x = line_behind form front seed columns (row_part x.row) (x.times ∷ [])

  -- of nodes from node 1 on, and of rows
  abbrev pub node_lines : List (List ℕ) → List ℕ
  node_lines parts = numbered_lines node_line 1 parts

  abbrev pub row_lines : List RowCount → List ℕ
  row_lines rows = flat_map row_line rows
