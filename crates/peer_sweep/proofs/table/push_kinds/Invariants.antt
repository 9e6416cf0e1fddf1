use Rattle.std.proofs.Common.{◌≡◌, ◌++◌, map, take}
use Rattle.peer_sweep.specs.Columns.{kind_column}
use Rattle.peer_sweep.proofs.table.push_kinds.Given as goal

abbrev pub invariant-loop-name : goal.invariant-loop-name
invariant-loop-name g l = l.columns.items ≡ l.fn.columns.items ++ map (kind_column (g.T.Teller.about l.teller)) (take l.name-index l.kinds)
