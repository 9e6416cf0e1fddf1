-- The premises of the laws hold of a real net: two nodes that have halted.
use Rattle.std.proofs.Common.{◌≡◌, ℕ, zero, suc, ◌^◌, ◌≤◌, List, [], ◌∷◌, refl, arith, pow_mono}
use Rattle.ghs_graph.specs.Bound.{IsBound}
use Rattle.ghs_graph.specs.Graph.{Shape}
use Rattle.ghs_graph.specs.Links.{AreAmong, IsRising}
use Rattle.ghs_graph.specs.Ports.{ports_of}
use Rattle.peer_network.specs.declared.event.Event.{Event}
use Rattle.peer_network.specs.declared.event.Event.TheVariants.{Wake, Take}
use Rattle.peer_network.specs.Network.{network_of}
use Rattle.ghs_protocol.specs.Net.{opening}
use Rattle.ghs_protocol.specs.Payments.{accepts, added_up, calls, paid_by, port_pays, reports, roots}
use Rattle.ghs_protocol.specs.Run.{net_after}
use Rattle.ghs_protocol.specs.Marks.{HasHalted}
use Rattle.ghs_protocol.specs.Laws.{IsNetOf}

abbrev g : Shape
g = record { nodes = 2; keys = record { weight = 5; a = 1; b = 2 } ∷ record { weight = 6; a = 1; b = 2 } ∷ [] }

abbrev events : List Event
events = Wake 1 ∷ Wake 2 ∷ Take 1 0 ∷ Take 2 0 ∷ Take 1 0 ∷ Take 2 0 ∷ Take 2 1 ∷ Take 1 0 ∷ Take 1 1 ∷ Take 2 0 ∷ []

among : AreAmong 2 g.keys
among zero d lt = (omega arith, omega arith, omega arith)
among (suc zero) d lt = (omega arith, omega arith, omega arith)
among (suc (suc k)) d lt = absurd (omega (arith, lt))

rising : IsRising g.keys
rising zero zero d lt l = absurd (omega (arith, lt))
rising zero (suc zero) d lt l = refl
rising zero (suc (suc k)) d lt l = absurd (omega (arith, l))
rising (suc i) zero d lt l = absurd (omega (arith, lt))
rising (suc i) (suc zero) d lt l = absurd (omega (arith, lt))
rising (suc i) (suc (suc k)) d lt l = absurd (omega (arith, l))

is_net : IsNetOf g (net_after g events)
unfolding net_after ports_of
is_net = record {
  graph = record { some = omega arith; nodes = omega arith; links = omega arith; among = among; rising = rising };
  events = events;
  run = refl;
}

halted : HasHalted (net_after g events) 2
unfolding net_after ports_of
halted = refl

-- and of the bound: 2 * 2 + 5 * (2 * 1)
greatest : (j : ℕ) → 2 ^ j ≤ 2 → j ≤ 1
greatest zero le = omega arith
greatest (suc zero) le = omega arith
greatest (suc (suc j)) le =
    absurd (let two : 2 ≤ suc (suc j) = omega arith in let z : 2 ^ 2 ≤ 2 ^ (suc (suc j)) = pow_mono two in omega (arith, z, le))

bound : IsBound 2 2 14
bound = record { levels = 1; log2 = record { at_most = omega arith; greatest = greatest }; bound = refl }

-- what is counted for node 1 in these events: its level 0 pays for a Connect, its level 1 for an Initiate and a Report, and port 1
-- for a Test that failed
counted :
    paid_by roots (network_of g) 1 0 events (opening (network_of g)) ∷ paid_by roots (network_of g) 1 1 events (opening (network_of g)) ∷
    paid_by calls (network_of g) 1 1 events (opening (network_of g)) ∷ paid_by reports (network_of g) 1 1 events (opening (network_of g)) ∷
    paid_by accepts (network_of g) 1 1 events (opening (network_of g)) ∷ added_up (port_pays 1 0) (network_of g) events
    (opening (network_of g)) ∷ added_up (port_pays 1 1) (network_of g) events (opening (network_of g)) ∷ [] ≡ 1 ∷ 0 ∷ 1 ∷ 1 ∷ 0 ∷ 0 ∷ 1 ∷ []
unfolding ports_of
counted = refl
