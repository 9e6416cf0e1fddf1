use Rattle.peer_channels.proofs.lemmas.Rooms.{port_queue}
use Rattle.ghs_core.proofs.net.Net.front.Goals as goal

pub front-requires : goal.front-requires
front-requires c = port_queue c.self.invariant.queues c.args.v c.args.port (rw (← c.self.view_is) at c.requires)
