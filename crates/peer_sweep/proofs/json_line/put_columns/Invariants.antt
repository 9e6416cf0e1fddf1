use Rattle.std.proofs.Common.{◌≡◌, ◌++◌, take}
use Rattle.std.specs.List.{flat_map}
use Rattle.peer_sweep.specs.JsonLine.{column_member}
use Rattle.peer_sweep.proofs.json_line.put_columns.Given as goal

abbrev pub invariant-loop-column : goal.invariant-loop-column
invariant-loop-column l = l.text.items ≡ l.fn.text.items ++ flat_map (column_member l.figures) (take l.column-index l.columns)
