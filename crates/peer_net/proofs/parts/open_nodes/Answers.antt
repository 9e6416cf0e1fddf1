use Rattle.std.proofs.Common.{◌+◌, arith}
use Rattle.peer_network.proofs.lemmas.Graphs.{graph_few}
use Rattle.peer_net.proofs.parts.open_nodes.Goals as goal

pub open-requires : goal.open-requires
open-requires g c =
    let few = graph_few c.args.graph.now c.nodes-count.ensures.graph (c.loop-i.i + 1) in
    record { setting = c.requires; few = rw c.ports.ensures (omega (arith, few)) }
