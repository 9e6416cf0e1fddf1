-- The columns of the lines of runs, one for each measure.
use Rattle.std.specs.Prelude.{ℕ, zero, suc, List, [], ◌∷◌, ◌++◌, Option, Some, None, codes, map, if◌then◌else◌}
use Rattle.std.specs.Str.{bytes_eq}
use Rattle.peer_sweep.specs.declared.column.Column.{Column}
use Rattle.peer_sweep.specs.declared.measure.Measure.{Measure}
use Rattle.peer_sweep.specs.declared.measure.Measure.TheVariants.{Events, Sent, Kind, Requeued, Queued, Bound, Level, Fragments, Weight, Halted, Chain, Bits, Longest}
use Rattle.peer_sweep.specs.About.{About}

-- the one of the first n kinds that has this name
abbrev pub kind_named : (ℕ → List ℕ) → List ℕ → ℕ → Option ℕ
kind_named kind name zero = None
kind_named kind name (suc n) = if bytes_eq (kind n) name then Some n else kind_named kind name n

module _ (p : About) where
  abbrev pub column : List ℕ → Measure → Column
  column name m = record { name = name; measure = m; is_fixed = p.is_fixed m }

  -- the column of the kind of messages of this name, which stays empty where the protocol has no such kind
  abbrev pub kind_column : List ℕ → Column
  kind_column name = column name (Kind (kind_named p.kind name p.kinds))

  -- before the kinds of messages: what happened
  unfoldable pub first_columns : List Column
  first_columns = column (codes "events") Events ∷ column (codes "sent") Sent ∷ []

  -- behind them: other counts of messages, and the bound
  unfoldable pub count_columns : List Column
  count_columns = column (codes "requeued") Requeued ∷ column (codes "queued") Queued ∷ column (codes "bound") Bound ∷ []

  -- the fragments, and their greatest level
  unfoldable pub fragment_columns : List Column
  fragment_columns = column (codes "level") Level ∷ column (codes "fragments") Fragments ∷ []

  -- what the run has found, and how it ended
  unfoldable pub end_columns : List Column
  end_columns = column (codes "weight") Weight ∷ column (codes "end") Halted ∷ []

  -- how long it is
  unfoldable pub length_columns : List Column
  length_columns = column (codes "chain") Chain ∷ column (codes "bits") Bits ∷ column (codes "longest") Longest ∷ []

  -- all columns, where these are the names of those of kinds
  abbrev pub columns_of : List (List ℕ) → List Column
  columns_of kinds = first_columns ++ map kind_column kinds ++ count_columns ++ fragment_columns ++ end_columns ++ length_columns

-- how the lines of a protocol's runs are laid out: its name, and their columns
pub record Layout : Type 0 where
  pub protocol : List ℕ
  pub columns : List Column

abbrev pub layout_of : About → List (List ℕ) → Layout
layout_of p kinds = record { protocol = p.name; columns = columns_of p kinds }
