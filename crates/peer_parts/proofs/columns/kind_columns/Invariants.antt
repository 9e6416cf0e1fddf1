use Rattle.std.proofs.Common.{◌≡◌, map, take}
use Rattle.peer_parts.specs.Columns.{column_of}
use Rattle.peer_parts.proofs.columns.kind_columns.Given as goal

abbrev pub invariant-loop-name : goal.invariant-loop-name
invariant-loop-name g l = l.columns.items ≡ map (column_of g.P.Swept.about) (take l.name-index l.names)
