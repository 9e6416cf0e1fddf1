use Rattle.std.proofs.Common.{◌≡◌, ◌∙◌, length, ap, arith}
use Rattle.ghs_graph.specs.Graph.{Shape}
use Rattle.ghs_graph.specs.Ports.{ports_of}
use Rattle.ghs_core.specs.NetState.{network}
use Rattle.ghs_world.specs.Ready.{is_ready}
use Rattle.ghs_world.proofs.Listing.{listed_node}
use Rattle.peer_network.proofs.lemmas.Graphs.{graph_few}
use Rattle.ghs_world.proofs.world.World.ready.Goals as goal

pub overflow_cast-port-end : goal.overflow_cast-port-end
overflow_cast-port-end c = let few = graph_few c.graph-graph.result.now c.nodes-v-end.ensures.graph c.loop-v.v in rw c.ports.ensures (omega arith)

pub loop-v-preserved : goal.loop-v-preserved
loop-v-preserved c =
    let many : c.loop-port.port ≡ length c.ports.result.now = omega arith in
    listed_node (is_ready c.args.self.now) (network c.args.self.now.net) c.loop-v.v c.loop-port.port c.loop-port.events.items (omega arith)
    (many ∙ ap length (c.ports.ensures ∙ ap (λ (g : Shape). ports_of g.keys c.loop-v.v) c.graph-graph.ensures)) c.loop-port.invariant
