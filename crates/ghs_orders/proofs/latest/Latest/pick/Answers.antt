use Rattle.std.proofs.Common.{inl, inr, refl}
use Rattle.ghs_orders.proofs.Running.{latest_place}
use Rattle.ghs_orders.proofs.latest.Latest.pick.Goals as goal

pub placed-requires : goal.placed-requires
placed-requires c = latest_place c.args.world.now c.in-Some.event c.in-Some.ensures

pub returns-in-Some-clause-next : goal.returns-in-Some-clause-next
returns-in-Some-clause-next c = rw c.placed.ensures.event (inl (c.in-Some.ensures, refl))

pub returns-in-None-clause-next : goal.returns-in-None-clause-next
returns-in-None-clause-next c = inr (c.in-None.ensures, c.pick.ensures.pick, c.pick.ensures.next)
