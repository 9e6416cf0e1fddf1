use Rattle.peer_picking.proofs.LifoRunning.{next_is_ready}
use Rattle.peer_picking.proofs.lifo_run.play_next.Goals as goal

pub play_followed-requires-clause-ready : goal.play_followed-requires-clause-ready
play_followed-requires-clause-ready g c =
    next_is_ready g.P.Protocol.rules c.args.world.now c.in_ok-rest.rest c.pick-placed.result.event c.pick-placed.new.schedule
    c.pick-placed.ensures.next

pub follow-requires-clause-before : goal.follow-requires-clause-before
follow-requires-clause-before g c = record {
  before = c.args.world.now;
  ready =
      next_is_ready g.P.Protocol.rules c.args.world.now c.in_ok-rest.rest c.pick-placed.result.event c.pick-placed.new.schedule
      c.pick-placed.ensures.next;
  played = c.in_ok-sends.ensures.played;
  sends = rw c.deref.ensures.value c.in_ok-sends.ensures.sends;
  latest = c.requires.latest;
}
