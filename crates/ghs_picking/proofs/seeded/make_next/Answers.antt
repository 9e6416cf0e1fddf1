use Rattle.ghs_sched.proofs.lemmas.Running.{made_next, pick_is_ready}
use Rattle.ghs_picking.proofs.seeded.make_next.Goals as goal

pub make-requires-clause-ready : goal.make-requires-clause-ready
make-requires-clause-ready g c = pick_is_ready c.args.world.now c.pick-place.result c.ready_placed.result.event c.ready_placed.ensures.event

pub returns-clause-ok : goal.returns-clause-ok
returns-clause-ok g c =
    made_next c.args.world.now c.make.new.world c.args.schedule.now c.in_ok-rest.rest c.pick-place.new.self c.ready_count.result c.pick-place.result
    c.ready_placed.result.event
    c.in_ok-rest.ensures c.ready_count.ensures c.pick-place.ensures.pick c.pick-place.ensures.within c.ready_placed.ensures.event
    c.in_ok-make.ensures.made c.pick-place.ensures.next
