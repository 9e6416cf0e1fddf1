-- Where the events of a node begin.
use Rattle.std.proofs.Common.{ℕ, ◌+◌, ◌-◌, ◌≤◌, arith}
use Rattle.ghs_graph.specs.Graph.{Shape}
use Rattle.peer_network.specs.Network.{network_of}
use Rattle.peer_network.proofs.lemmas.Graphs.{twice_links}
use Rattle.peer_index.proofs.lemmas.Places.{length_to, longer}
use Rattle.peer_channels.specs.Channels.{ChannelsState, IsFor, first_queue}
use Rattle.peer_channels.proofs.lemmas.Starts.{first_place}

-- there are few events, so where those of a node begin is a small number
pub start_few : {M : Type 0} (g : Shape) (l : ChannelsState M) → IsFor g l → (v : ℕ) → 1 ≤ v → v ≤ g.nodes → first_queue l v + (v - 1) ≤ 33554432
start_few g l for v low high =
    let place = first_place g l for v low high in
    let front = longer (network_of g) g.nodes (v - 1) (omega arith) in
    let all = length_to (network_of g) g.nodes in
    let twice = twice_links g for.graph in
    let graph = for.graph in
    let nodes = graph.nodes in
    let links = graph.links in
    omega arith
