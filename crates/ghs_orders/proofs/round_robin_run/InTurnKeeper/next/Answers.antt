use Rattle.ghs_orders.proofs.Worlds.{some_next}
use Rattle.ghs_orders.proofs.round_robin_run.InTurnKeeper.next.Goals as goal

pub returns-in-None-clause-next : goal.returns-in-None-clause-next
returns-in-None-clause-next c = absurd (some_next c.args.world.now c.requires.home c.requires.some c.in-None.ensures)

pub returns-in-None-clause-ready : goal.returns-in-None-clause-ready
returns-in-None-clause-ready c = absurd (some_next c.args.world.now c.requires.home c.requires.some c.in-None.ensures)
