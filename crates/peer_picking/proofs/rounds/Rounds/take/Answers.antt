use Rattle.peer_network.specs.declared.event.Event.TheVariants.{Wake}
use Rattle.peer_network.specs.Events.{event_node}
use Rattle.peer_network.specs.Network.{network_of}
use Rattle.peer_index.proofs.lemmas.Places.{of_own_node}
use Rattle.peer_picking.proofs.Rounding.{round_with}
use Rattle.peer_picking.proofs.rounds.Rounds.take.Goals as goal

pub get-count-requires-clause-round : goal.get-count-requires-clause-round
get-count-requires-clause-round c =
    let g = network_of c.args.graph.now in
    let round = rw (← c.self.view_is) at c.requires.round in
    rw (c.put.ensures, c.wake.ensures.event)
    (round_with g c.self.inside.here (Wake (event_node c.args.placed.event)) 0 round (of_own_node g c.args.placed.event c.requires.placed.event))

pub put-requires-in-Take-clause-round : goal.put-requires-in-Take-clause-round
put-requires-in-Take-clause-round c =
    let g = network_of c.args.graph.now in
    let round = rw (← c.self.view_is) at c.requires.round in
    rw (c.put.ensures, c.wake.ensures.event)
    (round_with g c.self.inside.here (Wake (event_node c.args.placed.event)) 0 round (of_own_node g c.args.placed.event c.requires.placed.event))
