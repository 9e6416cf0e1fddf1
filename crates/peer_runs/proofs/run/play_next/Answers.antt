use Rattle.peer_runs.proofs.Running.{played_next, pick_is_ready}
use Rattle.peer_runs.proofs.run.play_next.Goals as goal

pub play_followed-requires-clause-ready : goal.play_followed-requires-clause-ready
play_followed-requires-clause-ready g c =
    pick_is_ready g.P.Protocol.rules c.args.world.now c.pick-place.result c.ready_placed_at.result.event c.ready_placed_at.ensures.event

pub returns-clause-ok : goal.returns-clause-ok
returns-clause-ok g c =
    played_next g.P.Protocol.rules c.args.world.now c.play_followed.new.self c.args.schedule.now c.in_ok-rest.rest c.pick-place.new.self
    c.ready_count.result
    c.pick-place.result c.ready_placed_at.result.event c.in_ok-rest.ensures c.ready_count.ensures c.pick-place.ensures.pick
    c.pick-place.ensures.within
    c.ready_placed_at.ensures.event c.in_ok-play_followed.ensures.played c.pick-place.ensures.next
