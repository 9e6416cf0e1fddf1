use Rattle.std.proofs.Common.{◌≡◌, ◌++◌, take}
use Rattle.std.specs.List.{flat_map}
use Rattle.peer_parts.specs.Lines.{row_line}
use Rattle.peer_parts.proofs.lines.put_rows.Given as goal

abbrev pub invariant-loop-row : goal.invariant-loop-row
invariant-loop-row l = l.text.items ≡ l.fn.text.items ++ flat_map (row_line l.form l.front l.seed l.columns) (take l.row-index l.rows)
