use Rattle.ghs_shared.proofs.QueueMoves.{takes, learns, some_share}
use Rattle.ghs_shared.proofs.queue.ReadyQueue.take_last.Goals as goal

pub pop_as-requires-clause-rule : goal.pop_as-requires-clause-rule
pop_as-requires-clause-rule g c =
    let i = c.pass.invariant in
    let s = some_share _ _ i.1 i.2 in
    (takes _ _ s, learns _ _ s)
