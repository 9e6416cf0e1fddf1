use Rattle.std.proofs.Common.{get_or}
use Rattle.ghs_core.specs.Marked.{HaveRoot}
use Rattle.ghs_core.proofs.marked.numbers_alike.Given as goal

abbrev pub invariant-loop-u : goal.invariant-loop-u
invariant-loop-u l = HaveRoot l.roots l.u (get_or l.roots l.v 0) l.numbers.items
