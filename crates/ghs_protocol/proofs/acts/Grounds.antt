-- Each graph's network is ground for the proof.
use Rattle.ghs_graph.specs.Graph.{Shape, IsGraph}
use Rattle.peer_network.specs.Network.{network_of}
use Rattle.ghs_protocol.proofs.clauses.Wiring.{Ground}
use Rattle.peer_network.proofs.lemmas.Graphs.{graph_wired, graph_keyed, graph_rising}

pub graph_ground : (g : Shape) → IsGraph g → Ground (network_of g)
graph_ground g ok = record { wired = graph_wired g ok; keyed = graph_keyed g ok; ordered = graph_rising g ok }
