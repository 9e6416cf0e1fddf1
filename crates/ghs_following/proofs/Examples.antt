-- Small runs, computed from the definitions.
use Rattle.std.proofs.Common.{◌≡◌, ◌-◌, List, [], ◌∷◌, ◌++◌, refl}
use Rattle.ghs_graph.specs.Graph.{Shape}
use Rattle.ghs_graph.specs.Ports.{ports_of}
use Rattle.peer_network.specs.declared.event.Event.{Event}
use Rattle.peer_network.specs.declared.event.Event.TheVariants.{Wake, Take}
use Rattle.peer_network.specs.Network.{Network, network_of}
use Rattle.ghs_following.specs.Chains.{chains_of, longest_chain}

-- two nodes and a link of weight 5
abbrev pair : Network
pair = record { count = 2; ports = λ v. record { key = record { weight = 5; a = 1; b = 2 }; far = 3 - v; far_port = 0 } ∷ [] }

-- a message that nobody has heard doesn't count
under_way : longest_chain pair (Wake 1 ∷ []) ≡ 0
unfolding chains_of
under_way = refl

-- who is woken by a message has heard of it
woken : longest_chain pair (Wake 1 ∷ Take 2 0 ∷ []) ≡ 1
unfolding chains_of
woken = refl

-- Connect, Initiate and Report: the run to its end
whole : longest_chain pair (Wake 1 ∷ Wake 2 ∷ Take 1 0 ∷ Take 2 0 ∷ Take 1 0 ∷ Take 2 0 ∷ Take 1 0 ∷ []) ≡ 3
unfolding chains_of
whole = refl

-- Three nodes in a row, the links of weights 5 and 7. Nodes 1 and 2 merge, node 2 sends a Test to node 3, and node 3 a Connect to node 2.
three : Shape
three = record { nodes = 3; keys = record { weight = 5; a = 1; b = 2 } ∷ record { weight = 7; a = 2; b = 3 } ∷ [] }

crossing : List Event
crossing = Wake 1 ∷ Wake 2 ∷ Take 1 0 ∷ Take 2 0 ∷ Take 2 0 ∷ Wake 3 ∷ []

-- Node 2 takes the Connect and answers by an Initiate; node 3 puts the Test back, in the same queue. The Initiate comes before the Test or behind
-- it, by which of them happens first, so that the next to take from there hears of another message: such neighbours may not be swapped.
before : longest_chain (network_of three) (crossing ++ Take 2 1 ∷ Take 3 0 ∷ Take 3 0 ∷ []) ≡ 3
unfolding chains_of three crossing ports_of
before = refl

behind : longest_chain (network_of three) (crossing ++ Take 3 0 ∷ Take 2 1 ∷ Take 3 0 ∷ []) ≡ 2
unfolding chains_of three crossing ports_of
behind = refl
