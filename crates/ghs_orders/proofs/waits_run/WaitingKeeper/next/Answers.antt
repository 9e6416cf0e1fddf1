use Rattle.ghs_orders.proofs.Picks.{pick_is_ready}
use Rattle.ghs_orders.proofs.waits_run.WaitingKeeper.next.Goals as goal

pub returns-clause-next : goal.returns-clause-next
returns-clause-next c = (c.pick.ensures.pick, c.pick.ensures.next)

pub returns-clause-ready : goal.returns-clause-ready
returns-clause-ready c = pick_is_ready c.args.world.now c.args.schedule.now c.pick.result.event c.requires.home c.pick.ensures.pick
