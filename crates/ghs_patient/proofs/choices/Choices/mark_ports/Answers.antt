use Rattle.std.proofs.Common.{◌≡◌, ◌+◌, ◌∙◌, ℕ, suc, ap, length, arith}
use Rattle.ghs_graph.specs.Graph.{Shape}
use Rattle.ghs_graph.specs.Ports.{ports_of}
use Rattle.peer_network.specs.Events.{event_node}
use Rattle.peer_network.specs.declared.event.Event.TheVariants.{Take}
use Rattle.peer_network.proofs.lemmas.Graphs.{graph_few}
use Rattle.ghs_core.specs.NetState.{network}
use Rattle.ghs_patient.specs.Choices.{marked, marked_to}
use Rattle.ghs_patient.proofs.Marking.{for_marked}
use Rattle.ghs_patient.proofs.lemmas.Places.{own_node}
use Rattle.ghs_patient.proofs.choices.Choices.mark_ports.Goals as goal

pub ports-requires-clause-low : goal.ports-requires-clause-low
ports-requires-clause-low c = rw c.node.ensures (own_node (network c.args.world.now.net) c.args.placed.event c.requires.placed.event).0

pub ports-requires-clause-high : goal.ports-requires-clause-high
ports-requires-clause-high c =
    rw (c.node.ensures, c.graph-graph.ensures) (own_node (network c.args.world.now.net) c.args.placed.event c.requires.placed.event).1

pub overflow_cast-port-end : goal.overflow_cast-port-end
overflow_cast-port-end c =
    let few = graph_few c.graph-graph.result.now c.nodes.ensures.graph (event_node c.args.placed.event) in
    rw (c.ports.ensures, c.node.ensures) (omega arith)

pub mark-requires-clause-placed : goal.mark-requires-clause-placed
mark-requires-clause-placed c =
    let own = own_node (network c.args.world.now.net) c.args.placed.event c.requires.placed.event in
    c.take.ensures.placed _ c.requires.placed
    (record { some = own.0; node = own.1; port = rw (c.ports.ensures, c.node.ensures, c.graph-graph.ensures) at c.loop-port-test.true })

pub loop-port-preserved : goal.loop-port-preserved
loop-port-preserved c =
    let up : suc c.loop-port.port ≡ c.loop-port.port + 1 = omega arith in
    let v = event_node c.args.placed.event in
    let mark = rw c.take.ensures.event at c.mark.ensures in (
      rw mark (for_marked c.args.world.now (Take v c.loop-port.port) c.loop-port.self c.loop-port.invariant.0),
      mark ∙ ap (marked c.args.world.now (Take v c.loop-port.port)) c.loop-port.invariant.1
          ∙ ap (λ (n : ℕ). marked_to c.args.world.now v n c.args.self.now) up,
    )

pub returns : goal.returns
returns c =
    let end = c.loop-port-test.false in
    let within = c.loop-port.auto.port-end in
    let many : c.loop-port.port ≡ length c.ports.result.now = omega arith in
    let v = event_node c.args.placed.event in
    c.loop-port.invariant.1
    ∙ ap (λ (n : ℕ). marked_to c.args.world.now v n c.args.self.now)
    (many ∙ ap length (c.ports.ensures ∙ ap (ports_of c.graph-graph.result.now.keys) c.node.ensures
    ∙ ap (λ (g : Shape). ports_of g.keys v) c.graph-graph.ensures))
