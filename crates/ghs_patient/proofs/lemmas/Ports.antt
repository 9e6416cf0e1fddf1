-- What a reaction marks is a port of its node.
use Rattle.std.proofs.Common.{ℕ, ◌<◌, length, Option, arith}
use Rattle.ghs_graph.specs.Graph.{IsGraph}
use Rattle.ghs_graph.specs.Ports.{ports_of}
use Rattle.ghs_node.specs.declared.mark.Mark.{Mark}
use Rattle.ghs_node.specs.declared.delta.Delta.{Delta}
use Rattle.ghs_node.specs.Laws.{MarkChange, Stays, To_branch, To_rejected}
use Rattle.ghs_node.specs.NodeState.{NodeState, degree}
use Rattle.ghs_node.proofs.lemmas.{row_marks}
use Rattle.peer_network.specs.declared.event.Event.{Event}
use Rattle.ghs_protocol.specs.Run.{IsRun}
use Rattle.ghs_protocol.proofs.lemmas.Nodes.{ports_many}
use Rattle.ghs_core.specs.NetState.{IsAnswer, IsLawful, NetState, event_node, net_of, network, work_at}
use Rattle.ghs_core.proofs.lemmas.Reacting.{answer_row, node_is}
use Rattle.ghs_patient.specs.Choices.{IsMarked}

marked_port : (n : NodeState) (o : Option (ℕ × Mark)) (q : ℕ) → MarkChange n o → IsMarked o q → q < degree n
marked_port n _ q Stays e = absurd e
marked_port n _ q (To_branch p lt) e = omega (arith, lt, e)
marked_port n _ q (To_rejected p lt b) e = omega (arith, lt, e)

-- the port that a reaction marks is one of its node
pub marks_own : (s : NetState) → IsGraph s.graph → IsRun (network s) s.trace → (e : Event) (d : Delta) → IsLawful s e → IsAnswer s e d →
    (q : ℕ) → IsMarked d.mark q → q < length (ports_of s.graph.keys (event_node e))
marks_own s graph run e d lawful answer q h =
    let node = node_is s graph run (event_node e) in
    let lt = marked_port ((net_of s).node (event_node e)) d.mark q
    (row_marks ((net_of s).node (event_node e)) (work_at (net_of s) e) d node.node (answer_row s graph run e d lawful answer)) h in
    let many = ports_many node in
    omega (arith, lt, many)
