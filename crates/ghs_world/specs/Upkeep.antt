-- Which events a commit may have changed.
use Rattle.std.specs.Prelude.{◌≡◌, ℕ, Bool, true, List, ◌∷◌, map}
use Rattle.std.specs.List.{All}
use Rattle.ghs_graph.specs.Graph.{Shape}
use Rattle.ghs_node.specs.declared.message.Message.{Message}
use Rattle.ghs_node.specs.Words.{Outgoing}
use Rattle.peer_network.specs.declared.event.Event.{Event}
use Rattle.peer_network.specs.declared.event.Event.TheVariants.{Wake, Take}
use Rattle.peer_network.specs.Network.{Network, network_of, far, far_port}
use Rattle.ghs_protocol.specs.Net.{Net, opening, is_lawful_under, is_waiting}
use Rattle.ghs_core.specs.NetState.{NetState, network, net_of, event_node}
use Rattle.peer_network.specs.declared.wake_set.WakeSet.{WakeSet}
use Rattle.peer_network.specs.Wakes.{may_wake}

-- the event is lawful in a net, under a wake set
abbrev pub lawful_in : NetState → WakeSet → Event → Bool
lawful_in n wake e = is_lawful_under (may_wake n.graph wake) (network n) (net_of n) e

-- and in the opening net of a graph
abbrev pub lawful_first : Shape → WakeSet → Event → Bool
lawful_first g wake e = is_lawful_under (may_wake g wake) (network_of g) (opening (network_of g)) e

-- the wake of its node, the event itself, and the Takes at the far ends of what its node sends
abbrev pub changed : Network → Event → Outgoing → List Event
changed g e ss = Wake (event_node e) ∷ e ∷ map (λ (s : ℕ × Message). Take (far g (event_node e) s.0) (far_port g (event_node e) s.0)) ss

-- at the far end of each port on which something was sent a message waits
abbrev pub HaveArrived : Network → Net → ℕ → Outgoing → Type 0
HaveArrived g w v ss = All (λ (s : ℕ × Message). is_waiting (w.queue (far g v s.0) (far_port g v s.0)) ≡ true) ss
