use Rattle.peer_channels.proofs.lemmas.Rooms.{port_queue}
use Rattle.ghs_core.proofs.net.Net.front_from.Goals as goal

pub front_from-requires-clause-port : goal.front_from-requires-clause-port
front_from-requires-clause-port c = port_queue c.self.invariant.queues c.args.v c.args.port (rw (← c.self.view_is) at c.requires.port)

pub front_from-requires-clause-start : goal.front_from-requires-clause-start
front_from-requires-clause-start c = rw (← c.self.view_is) at c.requires.start
