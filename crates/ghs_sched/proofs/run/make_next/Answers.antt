use Rattle.ghs_sched.proofs.lemmas.Running.{made_next, pick_is_ready}
use Rattle.ghs_sched.proofs.run.make_next.Goals as goal

pub make_placed-requires-clause-ready : goal.make_placed-requires-clause-ready
make_placed-requires-clause-ready c = pick_is_ready c.args.world.now c.pick-place.result c.ready_placed.result.event c.ready_placed.ensures.event

pub returns-clause-ok : goal.returns-clause-ok
returns-clause-ok c =
    made_next c.args.world.now c.make_placed.new.self c.args.schedule.now c.in_ok-rest.rest c.pick-place.new.self c.ready_count.result
    c.pick-place.result
    c.ready_placed.result.event
    c.in_ok-rest.ensures c.ready_count.ensures c.pick-place.ensures.pick c.pick-place.ensures.within c.ready_placed.ensures.event
    c.in_ok-make_placed.ensures.made
    c.pick-place.ensures.next
