use Rattle.std.proofs.Common.{◌+◌, ap, arith, length}
use Rattle.peer_network.specs.Network.{network_of}
use Rattle.peer_network.proofs.lemmas.Graphs.{graph_few}
use Rattle.peer_index.proofs.Laying.{few_events, fits_more, bases_more}
use Rattle.peer_index.proofs.bases.lay_bases.Goals as goal

pub overflow_cast-end : goal.overflow_cast-end
overflow_cast-end c = let few = graph_few c.args.graph.now c.nodes-nodes.ensures.graph (c.loop-i.i + 1) in rw c.ports.ensures (omega arith)

pub overflow_add-end : goal.overflow_add-end
overflow_add-end c = let few = graph_few c.args.graph.now c.nodes-nodes.ensures.graph (c.loop-i.i + 1) in rw c.ports.ensures (omega arith)

pub overflow_add-end-in-loop-i : goal.overflow_add-end-in-loop-i
overflow_add-end-in-loop-i c =
    let nodes = c.nodes-nodes.ensures.nodes in
    let below = c.loop-i-test.true in
    let few =
    fits_more c.args.graph.now c.nodes-nodes.ensures.graph c.loop-i.i (length c.ports.result.now) c.loop-i.end (omega arith) c.loop-i.invariant.1
    (ap length c.ports.ensures) in
    omega arith

pub loop-i-preserved : goal.loop-i-preserved
loop-i-preserved c = bases_more (network_of c.args.graph.now) c.loop-i.i c.loop-i.bases.items _ c.loop-i.end
    (length c.ports.result.now) c.loop-i.invariant.0 c.loop-i.invariant.1 (ap length c.ports.ensures) c.in_ok-push-3.ensures.items

pub returns-clause-few : goal.returns-clause-few
returns-clause-few c = few_events c.args.graph.now c.nodes-nodes.ensures.graph
