use Rattle.std.proofs.Common.{◌≡◌, ◌+◌}
use Rattle.ghs_pool.proofs.workers.fn.start_workers.scope.Given as goal

abbrev pub invariant-loop-rank : goal.invariant-loop-rank
invariant-loop-rank g l = l.feed.pass.shares + l.rank ≡ l.shares + 1
