use Rattle.ghs_world.proofs.Commits.{ready_kept}
use Rattle.ghs_world.proofs.world.World.make_rousing.Goals as goal

pub returns-clause-woken : goal.returns-clause-woken
returns-clause-woken c =
    (c.args.delta.now, c.requires.answer, rw c.ready_of.ensures (ready_kept _ _ _ c.in_ok-nodes.ensures.touched))
