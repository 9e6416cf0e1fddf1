use Rattle.peer_channels.proofs.lemmas.Rooms.{port_queue}
use Rattle.peer_net.proofs.net.Net.lawful_placed.Goals as goal

pub first_from-requires-clause-port : goal.first_from-requires-clause-port
first_from-requires-clause-port g c =
    port_queue c.self.invariant.1.shows.queues.ports c.in-Take.v c.in-Take.port (rw (c.in-Take.is, ← c.self.view_is) at c.requires.event)
