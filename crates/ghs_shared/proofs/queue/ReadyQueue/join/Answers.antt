use Rattle.ghs_shared.proofs.QueueMoves.{merges, some_share}
use Rattle.ghs_shared.proofs.queue.ReadyQueue.join.Goals as goal

pub absorb-requires-clause-rule : goal.absorb-requires-clause-rule
absorb-requires-clause-rule c =
    let i = c.pass.invariant in
    let o = c.other.invariant in
    merges _ _ _ _ (some_share _ _ i.1 i.2) (some_share _ _ o.1 o.2)
