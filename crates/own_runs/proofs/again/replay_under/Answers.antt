use Rattle.own_runs.proofs.Replaying.{replay_of}
use Rattle.own_runs.proofs.again.replay_under.Goals as goal

pub returns-in-Ok-so_far-clause-run : goal.returns-in-Ok-so_far-clause-run
returns-in-Ok-so_far-clause-run g c =
    let ran = c.in-Ok-so_far.ensures in
    replay_of g.P.Protocol.rules c.args.graph c.args.wake c.args.events.now c.in-Ok.world c.in-Ok.ensures.ok c.in-Ok-so_far.ran ran.run.0 ran.run.1
    ran.stands
