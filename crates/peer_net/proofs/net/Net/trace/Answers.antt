use Rattle.peer_net.proofs.net.Net.trace.Goals as goal

pub returns-clause-run : goal.returns-clause-run
returns-clause-run g c = rw (← c.self.view_is) c.self.invariant.1.run
