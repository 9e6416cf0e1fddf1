use Rattle.std.proofs.Common.{◌≡◌, true, sym, ◌∙◌}
use Rattle.peer_network.specs.Network.{is_port}
use Rattle.ghs_core.specs.NetState.{network}
use Rattle.peer_network.proofs.lemmas.Events.{at_of}
use Rattle.peer_channels.proofs.lemmas.Rooms.{port_queue}
use Rattle.ghs_core.proofs.net.Net.lawful_from.Goals as goal

pub front_from-requires-clause-port : goal.front_from-requires-clause-port
front_from-requires-clause-port c =
    let has : is_port (network c.args.self.now) c.in-Take.v c.in-Take.port ≡ true = sym c.has_port.ensures ∙ c.if-has_port.true in
    port_queue c.self.invariant.queues c.in-Take.v c.in-Take.port (at_of _ c.in-Take.v c.in-Take.port (rw (← c.self.view_is) at has))

pub front_from-requires-clause-start : goal.front_from-requires-clause-start
front_from-requires-clause-start c = rw (← c.self.view_is, c.in-Take.is) at c.requires
