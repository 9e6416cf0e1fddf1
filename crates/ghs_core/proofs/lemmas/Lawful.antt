-- The node of a lawful event is one of the network.
use Rattle.std.proofs.Common.{◌≡◌, ◌≤◌, true}
use Rattle.std.proofs.lemmas.Bool.{and_parts}
use Rattle.peer_network.specs.declared.event.Event.{Event}
use Rattle.peer_network.specs.declared.event.Event.TheVariants.{Wake, Take}
use Rattle.peer_network.specs.Network.{Network}
use Rattle.ghs_protocol.specs.Net.{Net, is_lawful}
use Rattle.peer_network.specs.Events.{event_node}
use Rattle.peer_network.proofs.lemmas.Events.{at_of, node_of}

pub lawful_node : (g : Network) (w : Net) (e : Event) → is_lawful g w e ≡ true → (1 ≤ event_node e) × (event_node e ≤ g.count)
lawful_node g w (Wake v) h = node_of g v (and_parts _ _ h).0
lawful_node g w (Take v p) h = let at = at_of g v p (and_parts _ _ h).0 in (at.some, at.node)
