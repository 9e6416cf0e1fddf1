-- Where the queues of a node begin, and where its events do: before both stand as many ports, and before its events the Wakes of
-- the nodes before it.
use Rattle.std.proofs.Common.{◌≡◌, ℕ, zero, suc, ◌+◌, ◌-◌, ◌≤◌, length, arith}
use Rattle.ghs_graph.specs.Graph.{Shape}
use Rattle.peer_channels.specs.Channels.{ChannelsState, IsFor, first_queue}
use Rattle.peer_channels.proofs.lemmas.Ports.{none_of_zero, queues_are_ports}
use Rattle.peer_network.specs.declared.event.Event.{Event}
use Rattle.peer_network.specs.declared.event.Event.TheVariants.{Wake, Take}
use Rattle.peer_network.specs.Events.{event_node}
use Rattle.peer_network.specs.Network.{Network, network_of}
use Rattle.peer_index.specs.declared.placed.Placed.{Placed}
use Rattle.peer_index.specs.Places.{events_to, place, HasPlace, IsPlaced}
use Rattle.peer_index.proofs.lemmas.Places.{length_next}

module _ {M : Type 0} (g : Shape) (l : ChannelsState M) (for : IsFor g l) where
  first_to : (n : ℕ) → n ≤ g.nodes → first_queue l (suc n) + n ≡ length (events_to (network_of g) n)
  first_to zero le = let none = none_of_zero g l for in omega arith
  first_to (suc n) le =
      let before = first_to n (omega arith) in
      let here = queues_are_ports g l for (suc n) (omega arith) le in
      let next = length_next (network_of g) n in
      omega arith

  pub first_place : (v : ℕ) → 1 ≤ v → v ≤ g.nodes → first_queue l v + (v - 1) ≡ place (network_of g) (Wake v)
  first_place zero low high = absurd (omega arith)
  first_place (suc n) low high = let same : suc n - 1 ≡ n = omega arith in rw same (first_to n (omega arith))

-- a placed event has a node
pub placed_node : (g : Network) (x : Placed) → IsPlaced g x → (1 ≤ event_node x.event) × (event_node x.event ≤ g.count)
placed_node g x placed = of x.event placed.event
  where
    of : (e : Event) → HasPlace g e → (1 ≤ event_node e) × (event_node e ≤ g.count)
    of (Wake v) has = has
    of (Take v p) has = (has.some, has.node)
