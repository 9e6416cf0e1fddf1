use Rattle.std.proofs.Common.{◌≡◌, true, sym, ◌∙◌}
use Rattle.peer_network.specs.Network.{is_port}
use Rattle.peer_network.proofs.lemmas.Events.{at_of}
use Rattle.peer_channels.proofs.lemmas.Rooms.{port_queue}
use Rattle.peer_net.specs.NetState.{network}
use Rattle.peer_net.proofs.net.Net.lawful.Goals as goal

pub first-requires : goal.first-requires
first-requires g c =
    let has : is_port (network c.args.self.now) c.in-Take.v c.in-Take.port ≡ true = sym c.has_port.ensures ∙ c.if-has_port.true in
    port_queue c.self.invariant.1.shows.queues.ports c.in-Take.v c.in-Take.port
    (at_of _ c.in-Take.v c.in-Take.port (rw (← c.self.view_is) at has))
