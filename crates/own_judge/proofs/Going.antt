-- The node of each event of a run has its place.
use Rattle.std.proofs.Common.{◌≡◌, ◌-◌, ◌≤◌, ◌<◌, ℕ, List, length, get_or, take, ap, arith}
use Rattle.ghs_core.proofs.lemmas.Lawful.{lawful_node}
use Rattle.ghs_core.specs.NetState.{NetState, net_of, network}
use Rattle.ghs_graph.specs.Graph.{Shape}
use Rattle.ghs_protocol.specs.Run.{IsRun}
use Rattle.ghs_steps.proofs.lemmas.{lawful_net}
use Rattle.peer_network.specs.Events.{event_node}
use Rattle.peer_network.specs.Network.{network_of}
use Rattle.peer_network.specs.declared.event.Event.{Event}

pub node_low : (s : NetState) (g : Shape) (es : List Event) (i : ℕ) (d : Event) (v : ℕ) → s.graph ≡ g → s.trace ≡ take i es →
    IsRun (network_of g) es → i < length es → v ≡ event_node (get_or es i d) → 1 ≤ v
node_low s g es i d v graph trace run lt is =
    let at = lawful_node (network s) (net_of s) (get_or es i d) (lawful_net s g es i d graph trace run lt) in
    omega (arith, at.0)

pub place_within : (s : NetState) (g : Shape) (es : List Event) (i : ℕ) (d : Event) (v places : ℕ) → s.graph ≡ g → s.trace ≡ take i es →
    IsRun (network_of g) es → i < length es → v ≡ event_node (get_or es i d) → places ≡ g.nodes → v - 1 < places
place_within s g es i d v places graph trace run lt is many =
    let at = lawful_node (network s) (net_of s) (get_or es i d) (lawful_net s g es i d graph trace run lt) in
    let same : s.graph.nodes ≡ g.nodes = ap (λ (x : Shape). x.nodes) graph in
    omega (arith, at.0, at.1)
