use Rattle.ghs_graph.proofs.Pieces.{built}
use Rattle.ghs_graph.proofs.graph.Graph.of.Goals as goal

pub invariant_of-result : goal.invariant_of-result
invariant_of-result c =
    built c.nodes-nodes.result c.args.raw.now.nodes c.in_ok-keys.keys.items c.deref.result.now c.deref-2.result.now
    c.in_ok-layout.layout.starts.items c.in_ok-pieces.pieces.roots.items c.in_ok-layout.layout.ports.items c.in_ok-pieces.pieces.count
    c.nodes-nodes.ensures (rw c.in_ok-keys.ensures.keys c.keys_of.ensures.graph) c.deref.ensures.value c.in_ok-pieces.ensures.roots
    c.in_ok-pieces.ensures.count c.deref-2.ensures.value c.in_ok-layout.ensures
