use Rattle.peer_channels.proofs.lemmas.Rooms.{port_queue}
use Rattle.ghs_core.proofs.net.Net.waiting_from.Goals as goal

pub len_from-requires-clause-port : goal.len_from-requires-clause-port
len_from-requires-clause-port c = port_queue c.self.invariant.queues c.args.v c.args.port (rw (← c.self.view_is) at c.requires.port)

pub len_from-requires-clause-start : goal.len_from-requires-clause-start
len_from-requires-clause-start c = rw (← c.self.view_is) at c.requires.start
