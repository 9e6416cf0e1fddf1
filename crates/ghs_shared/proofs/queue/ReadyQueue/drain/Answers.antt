use Rattle.ghs_shared.proofs.QueueMoves.{closes_all}
use Rattle.ghs_shared.proofs.queue.ReadyQueue.drain.Goals as goal

pub returns-in_default : goal.returns-in_default
returns-in_default g c =
    closes_all c.args.self.now c.args.pass c.loop.pass c.loop.rest.items c.loop.invariant.pass c.in_default.ensures.none.1
