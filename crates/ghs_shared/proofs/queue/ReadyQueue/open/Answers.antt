use Rattle.std.proofs.Common.{ap}
use Rattle.ghs_shared.proofs.QueueMoves.{begins}
use Rattle.ghs_shared.proofs.queue.ReadyQueue.open.Goals as goal

pub another-requires-clause-rule : goal.another-requires-clause-rule
another-requires-clause-rule c = begins _ _ (ap (λ v. v.opening) c.count_up.ensures.1)
