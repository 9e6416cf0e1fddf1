use Rattle.peer_channels.proofs.lemmas.Rooms.{port_queue}
use Rattle.ghs_core.proofs.net.Net.waiting_at.Goals as goal

pub len_at-requires : goal.len_at-requires
len_at-requires c = port_queue c.self.invariant.queues c.args.v c.args.port (rw (← c.self.view_is) at c.requires)
