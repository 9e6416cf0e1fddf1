use Rattle.std.proofs.Common.{◌≡◌}
use Rattle.ghs_examples.proofs.boards.rises_to.Given as goal

abbrev pub invariant-loop : goal.invariant-loop
invariant-loop l = l.reader.table ≡ l.board
