use Rattle.std.proofs.Common.{◌≡◌}
use Rattle.peer_sweep.specs.Columns.{kind_named}
use Rattle.peer_sweep.proofs.table.kind_named.Given as goal

abbrev pub invariant-loop-kind : goal.invariant-loop-kind
invariant-loop-kind g l = l.found ≡ kind_named g.P.Swept.about.kind l.name l.kind
