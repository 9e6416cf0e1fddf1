-- Where the events of a network stand among all of them.
use Rattle.std.specs.Prelude.{◌≡◌, ℕ, zero, suc, ◌+◌, ◌-◌, ◌≤◌, Bool, List, [], ◌∷◌, ◌++◌, length}
use Rattle.peer_network.specs.declared.event.Event.{Event}
use Rattle.peer_network.specs.declared.event.Event.TheVariants.{Wake, Take}
use Rattle.peer_network.specs.Events.{event_node}
use Rattle.peer_network.specs.Network.{Network, At, far, far_port, is_node, is_port}
use Rattle.peer_index.specs.declared.placed.Placed.{Placed}

-- the events of node v at its first d ports: Wake, then the ports rising
abbrev pub events_at : ℕ → ℕ → List Event
events_at v zero = Wake v ∷ []
events_at v (suc d) = events_at v d ++ Take v d ∷ []

-- the events of node v
abbrev pub node_events : Network → ℕ → List Event
node_events g v = events_at v (length (g.ports v))

-- the events of the nodes 1 to n
abbrev pub events_to : Network → ℕ → List Event
events_to g zero = []
events_to g (suc n) = events_to g n ++ node_events g (suc n)

-- every event that names a node or port of the network: by node, Wake before ports, ports rising
abbrev pub all_events : Network → List Event
all_events g = events_to g g.count

-- the Takes of node v at n ports, from one port on
abbrev pub takes : ℕ → ℕ → ℕ → List Event
takes v low zero = []
takes v low (suc n) = takes v low n ++ Take v (low + n) ∷ []

-- the event names a node or port of the network
abbrev pub HasPlace : Network → Event → Type 0
HasPlace g (Wake v) = (1 ≤ v) × (v ≤ g.count)
HasPlace g (Take v p) = At g v p

-- the same, as a test
abbrev pub has_place : Network → Event → Bool
has_place g (Wake v) = is_node g v
has_place g (Take v p) = is_port g v p

-- its place among all events, counted from 0
abbrev pub place : Network → Event → ℕ
place g (Wake v) = length (events_to g (v - 1))
place g (Take v p) = length (events_to g (v - 1)) + suc p

-- the Take at the far end of a port
abbrev pub far_take : Network → ℕ → ℕ → Event
far_take g v p = Take (far g v p) (far_port g v p)

-- the place at the far end: of a Take that of the Take at the far end of its port; a Wake is its own
abbrev pub far_place : Network → Event → ℕ
far_place g (Wake v) = place g (Wake v)
far_place g (Take v p) = place g (far_take g v p)

-- an event of the network, and the place of the Wake of its node
pub record IsPlaced (g : Network) (x : Placed) : Type 0 where
  pub event : HasPlace g x.event
  pub base : x.base ≡ place g (Wake (event_node x.event))
