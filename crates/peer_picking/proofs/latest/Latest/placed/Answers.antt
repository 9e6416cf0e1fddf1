use Rattle.std.proofs.Common.{arith}
use Rattle.peer_network.specs.declared.event.Event.TheVariants.{Wake}
use Rattle.peer_network.specs.Events.{event_node}
use Rattle.peer_network.specs.Network.{network_of}
use Rattle.peer_index.proofs.lemmas.Places.{of_own_node, place_within}
use Rattle.peer_picking.proofs.latest.Latest.placed.Goals as goal

pub overflow_cast-result : goal.overflow_cast-result
overflow_cast-result c =
    let g = network_of c.args.graph.now in
    let within = place_within g (Wake (event_node c.args.event)) (of_own_node g c.args.event c.requires.place) in
    let few = c.requires.kept.few in
    let at = rw c.node_of.ensures at c.place_of.ensures in
    omega (arith, within, few, at)
