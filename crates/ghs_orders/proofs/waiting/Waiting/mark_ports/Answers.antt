use Rattle.std.proofs.Common.{◌≡◌, ◌+◌, ◌∙◌, ℕ, suc, ap, length, arith}
use Rattle.ghs_graph.specs.Graph.{Shape}
use Rattle.ghs_graph.specs.Ports.{ports_of}
use Rattle.peer_network.specs.declared.event.Event.TheVariants.{Take}
use Rattle.peer_network.proofs.lemmas.Graphs.{graph_few}
use Rattle.ghs_orders.specs.Marks.{marked, marked_to}
use Rattle.ghs_orders.proofs.Marking.{for_marked}
use Rattle.ghs_orders.proofs.waiting.Waiting.mark_ports.Goals as goal

pub overflow_cast-port-end : goal.overflow_cast-port-end
overflow_cast-port-end c = let few = graph_few c.graph-graph.result.now c.nodes.ensures.graph c.args.v in rw c.ports.ensures (omega arith)

pub mark-requires-clause-place : goal.mark-requires-clause-place
mark-requires-clause-place c =
    record { some = c.requires.low; node = c.requires.high; port = rw (c.ports.ensures, c.graph-graph.ensures) at c.loop-port-test.true }

pub loop-port-preserved : goal.loop-port-preserved
loop-port-preserved c =
    let up : suc c.loop-port.port ≡ c.loop-port.port + 1 = omega arith in (
      rw c.mark.ensures (for_marked c.args.world.now (Take c.args.v c.loop-port.port) c.loop-port.self c.loop-port.invariant.0),
      c.mark.ensures ∙ ap (marked c.args.world.now (Take c.args.v c.loop-port.port)) c.loop-port.invariant.1
          ∙ ap (λ (n : ℕ). marked_to c.args.world.now c.args.v n c.args.self.now) up,
    )

pub returns : goal.returns
returns c =
    let end = c.loop-port-test.false in
    let within = c.loop-port.auto.port-end in
    let many : c.loop-port.port ≡ length c.ports.result.now = omega arith in
    c.loop-port.invariant.1
    ∙ ap (λ (n : ℕ). marked_to c.args.world.now c.args.v n c.args.self.now)
    (many ∙ ap length (c.ports.ensures ∙ ap (λ (g : Shape). ports_of g.keys c.args.v) c.graph-graph.ensures))
