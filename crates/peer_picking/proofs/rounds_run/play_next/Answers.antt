use Rattle.peer_picking.proofs.Running.{pick_in, pick_ready}
use Rattle.peer_picking.proofs.rounds_run.play_next.Goals as goal

pub play_followed-requires-clause-ready : goal.play_followed-requires-clause-ready
play_followed-requires-clause-ready g c =
    pick_ready g.P.Protocol.rules c.args.world.now c.args.rounds.now.round c.in_ok-rest.rest c.pick-placed.result.event c.pick-placed.ensures.pick

pub follow-requires-clause-before : goal.follow-requires-clause-before
follow-requires-clause-before g c = record {
  before = c.args.world.now;
  of_round =
      pick_in g.P.Protocol.rules c.args.world.now c.args.rounds.now.round c.in_ok-rest.rest c.pick-placed.result.event c.pick-placed.ensures.pick;
  played = c.in_ok-sends.ensures.played;
  sends = rw c.deref.ensures.value c.in_ok-sends.ensures.sends;
  rounds = c.requires.rounds;
}
