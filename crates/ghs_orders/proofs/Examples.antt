-- The numbers of a small run, computed from the definitions.
use Rattle.std.proofs.Common.{◌≡◌, List, [], ◌∷◌, ◌++◌, refl}
use Rattle.ghs_graph.specs.Graph.{Shape}
use Rattle.ghs_graph.specs.Ports.{ports_of}
use Rattle.peer_network.specs.declared.event.Event.{Event}
use Rattle.peer_network.specs.declared.event.Event.TheVariants.{Wake, Take}
use Rattle.peer_network.specs.Network.{network_of}
use Rattle.ghs_orders.specs.Newest.{newest_of}

-- three nodes in a row, the links of weights 5 and 7
three : Shape
three = record { nodes = 3; keys = record { weight = 5; a = 1; b = 2 } ∷ record { weight = 7; a = 2; b = 3 } ∷ [] }

-- Nodes 1 and 2 send Connects to each other, the messages 1 and 2, and then Initiates, 3 and 4; node 2 sends a Test to node 3, the fifth message,
-- and node 3 a Connect to node 2.
crossing : List Event
crossing = Wake 1 ∷ Wake 2 ∷ Take 1 0 ∷ Take 2 0 ∷ Take 2 0 ∷ Wake 3 ∷ []

six : (newest_of (network_of three) crossing).count ≡ 6
unfolding newest_of three crossing ports_of
six = refl

to_one : (newest_of (network_of three) crossing).last 1 0 ≡ 4
unfolding newest_of three crossing ports_of
to_one = refl

to_two : (newest_of (network_of three) crossing).last 2 0 ≡ 3
unfolding newest_of three crossing ports_of
to_two = refl

from_three : (newest_of (network_of three) crossing).last 2 1 ≡ 6
unfolding newest_of three crossing ports_of
from_three = refl

-- node 3 puts the Test back, and no message is sent
back : (newest_of (network_of three) (crossing ++ Take 3 0 ∷ [])).count ≡ 6
unfolding newest_of three crossing ports_of
back = refl

still : (newest_of (network_of three) (crossing ++ Take 3 0 ∷ [])).last 3 0 ≡ 5
unfolding newest_of three crossing ports_of
still = refl

-- node 2 takes the Connect, and sends an Initiate
seven : (newest_of (network_of three) (crossing ++ Take 2 1 ∷ [])).last 3 0 ≡ 7
unfolding newest_of three crossing ports_of
seven = refl
