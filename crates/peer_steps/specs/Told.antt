-- What a line says of an event's place.
use Rattle.std.specs.Prelude.{ℕ, Option, Some, None}
use Rattle.ghs_graph.specs.Graph.{Shape}
use Rattle.peer_network.specs.declared.event.Event.{Event}
use Rattle.peer_network.specs.declared.event.Event.TheVariants.{Wake, Take}
use Rattle.peer_network.specs.Network.{network_of, far}

-- the port from which an event takes a message, and the node at its other end; a wake has none
abbrev pub event_port : Event → Option ℕ
event_port (Wake v) = None
event_port (Take v p) = Some p

abbrev pub event_far : Shape → Event → Option ℕ
event_far g (Wake v) = None
event_far g (Take v p) = Some (far (network_of g) v p)
