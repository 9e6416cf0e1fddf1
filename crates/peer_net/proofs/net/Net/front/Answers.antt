use Rattle.peer_channels.proofs.lemmas.Rooms.{port_queue}
use Rattle.peer_net.proofs.net.Net.front.Goals as goal

pub first-requires : goal.first-requires
first-requires g c = port_queue c.self.invariant.1.shows.queues.ports c.args.v c.args.port (rw (← c.self.view_is) at c.requires)
