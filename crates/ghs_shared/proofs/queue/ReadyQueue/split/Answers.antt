use Rattle.std.proofs.Common.{ap, arith}
use Rattle.ghs_shared.proofs.QueueMoves.{cuts}
use Rattle.ghs_shared.proofs.queue.ReadyQueue.split.Goals as goal

pub another-cut-requires-clause-rule : goal.another-cut-requires-clause-rule
another-cut-requires-clause-rule c = cuts _ _ (rw (ap (λ b. b.shares) c.pass.view_is) (omega (arith, c.requires.two)))
