use Rattle.std.proofs.Common.{◌+◌, ap, arith, length}
use Rattle.peer_network.proofs.lemmas.Graphs.{graph_few}
use Rattle.peer_chains.proofs.Flat.{ports_few}
use Rattle.peer_chains.proofs.rows.lay_bases.Goals as goal

pub overflow_cast-end : goal.overflow_cast-end
overflow_cast-end c = let few = graph_few c.args.graph.now c.nodes-nodes.ensures.graph (c.loop-i.i + 1) in rw c.ports.ensures (omega arith)

pub overflow_add-end : goal.overflow_add-end
overflow_add-end c =
    let nodes = c.nodes-nodes.ensures.nodes in
    let below = c.loop-i-test.true in
    let few = ports_few c.args.graph.now c.nodes-nodes.ensures.graph c.loop-i.i (length c.ports.result.now) c.loop-i.end
    (omega arith) c.loop-i.invariant.sum (ap length c.ports.ensures) in
    omega arith
