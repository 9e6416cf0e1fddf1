use Rattle.std.proofs.Common.{◌≡◌, ◌+◌, ◌++◌}
use Rattle.ghs_make.specs.Ends.{firsts}
use Rattle.ghs_make.proofs.ends.put_complete_ends.Given as goal

abbrev pub invariant-loop-before : goal.invariant-loop-before
invariant-loop-before l = l.ends.items ≡ l.fn.ends.items ++ firsts (λ i. i + 1) l.before
