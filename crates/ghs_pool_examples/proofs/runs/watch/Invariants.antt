use Rattle.std.proofs.Common.{◌≡◌}
use Rattle.ghs_pool_examples.proofs.runs.watch.Given as goal

abbrev pub invariant-loop : goal.invariant-loop
invariant-loop l = l.reader.table ≡ l.board
