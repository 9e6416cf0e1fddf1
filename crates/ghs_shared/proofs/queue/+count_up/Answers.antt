use Rattle.std.proofs.Common.{ap}
use Rattle.ghs_shared.proofs.QueueMoves.{doubles}
use Rattle.ghs_shared.proofs.queue.+count_up.Goals as goal

pub another-requires-clause-rule : goal.another-requires-clause-rule
another-requires-clause-rule t c = doubles _ _ _ (ap (λ v. v.opening) c.count_up.ensures.1)

pub another-requires-else-number-eq0-2-clause-rule : goal.another-requires-else-number-eq0-2-clause-rule
another-requires-else-number-eq0-2-clause-rule t c = doubles _ _ _ (ap (λ v. v.opening) c.count_up.ensures.1)
