use Rattle.std.proofs.Common.{arith, ap, ◌∙◌}
use Rattle.peer_network.specs.Network.{network_of}
use Rattle.ghs_protocol.specs.Run.{net_after}
use Rattle.peer_channels.specs.Channels.{first_queue}
use Rattle.ghs_core.specs.NetState.{NetState, event_node}
use Rattle.ghs_core.proofs.lemmas.Lawful.{lawful_node}
use Rattle.ghs_core.proofs.net.Net.start_of_lawful.Goals as goal

pub start-requires : goal.start-requires
start-requires c =
    let count = c.self.invariant.queues.count in
    let graph = c.self.inside.graph in
    let node = lawful_node (network_of graph) (net_after graph c.self.inside.trace.items) c.args.event (rw (← c.self.view_is) at c.requires) in
    let high = node.1 in
    rw c.node_of.ensures (omega (arith, count, high))

pub returns : goal.returns
returns c =
    rw c.node_of.ensures at c.start.ensures ∙ ap (λ (s : NetState). first_queue s.channels (event_node c.args.event)) c.self.view_is
