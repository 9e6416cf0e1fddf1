use Rattle.std.proofs.Common.{◌≡◌}
use Rattle.ghs_cli.proofs.progress.observe.Given as goal

abbrev pub invariant-loop : goal.invariant-loop
invariant-loop g l = l.reader.table ≡ l.board
