use Rattle.peer_runs.proofs.world.World.net.Goals as goal

pub returns-clause-run : goal.returns-clause-run
returns-clause-run g c = rw (← c.self.view_is) (c.trace.ensures.run, c.self.invariant.wakes)
