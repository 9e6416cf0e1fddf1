use Rattle.std.proofs.Common.{arith}
use Rattle.peer_network.proofs.lemmas.Graphs.{graph_few}
use Rattle.own_view.proofs.openings.degree.Goals as goal

pub overflow_cast-result : goal.overflow_cast-result
overflow_cast-result c = let few = graph_few c.args.graph.now c.nodes.ensures.graph c.args.v in rw c.ports.ensures (omega arith)
