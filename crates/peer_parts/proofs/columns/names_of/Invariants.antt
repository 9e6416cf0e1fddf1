use Rattle.std.proofs.Common.{◌≡◌, map}
use Rattle.std.specs.List.{range_with_len}
use Rattle.peer_parts.proofs.columns.names_of.Given as goal

abbrev pub invariant-loop-kind : goal.invariant-loop-kind
invariant-loop-kind g l = l.names.items ≡ map g.P.Swept.about.kind (range_with_len 0 l.kind)
