use Rattle.std.proofs.Common.{◌≡◌, ◌+◌, ◌++◌}
use Rattle.ghs_make.specs.Ends.{one_and_run}
use Rattle.ghs_make.proofs.far.put_one_and_run.Given as goal

abbrev pub invariant-loop-further : goal.invariant-loop-further
invariant-loop-further l = l.ends.items ≡ l.fn.ends.items ++ one_and_run l.one l.start l.further
