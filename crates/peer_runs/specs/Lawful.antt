-- Which events are lawful where some nodes alone wake by themselves.
use Rattle.std.specs.Prelude.{ℕ, Bool, ◌&&◌, List, filter}
use Rattle.ghs_graph.specs.Graph.{Shape}
use Rattle.peer_network.specs.declared.event.Event.{Event}
use Rattle.peer_network.specs.declared.event.Event.TheVariants.{Wake, Take}
use Rattle.peer_network.specs.Network.{Network, network_of}
use Rattle.peer_index.specs.Places.{all_events}
use Rattle.peer_machine.specs.Rules.{Rules}
use Rattle.peer_machine.specs.Net.{Net, is_lawful}
use Rattle.peer_machine.specs.Run.{net_after}

-- the event is lawful, and a wake is of a node that may wake by itself
abbrev pub is_lawful_under : {S M : Type 0} → Rules S M → (ℕ → Bool) → Network → Net S M → Event → Bool
is_lawful_under r may g w (Wake v) = is_lawful r g w (Wake v) && may v
is_lawful_under r may g w (Take v p) = is_lawful r g w (Take v p)

-- such events of the net after a trace, by node, Wake before ports, ports rising
abbrev pub lawful_events : {S M : Type 0} → Rules S M → (ℕ → Bool) → Shape → List Event → List Event
lawful_events r may g es = filter (is_lawful_under r may (network_of g) (net_after r g es)) (all_events (network_of g))
