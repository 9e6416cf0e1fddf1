use Rattle.std.proofs.Common.{◌<◌, ◌+◌, ◌∙◌, ℕ, List, ap, drop, length, subst, sym}
use Rattle.std.proofs.Math.ListN.{drop_of_length-le}
use Rattle.std.proofs.lemmas.List.Elements.{All-get_or}
use Rattle.ghs_graph.specs.Graph.{IsGraph}
use Rattle.ghs_graph.specs.Ports.{ports_of}
use Rattle.ghs_node.specs.declared.message.Message.{Message}
use Rattle.peer_network.specs.declared.event.Event.{Event}
use Rattle.peer_network.specs.declared.event.Event.TheVariants.{Take}
use Rattle.peer_network.specs.Network.{far, far_port}
use Rattle.peer_network.proofs.lemmas.Graphs.{graph_wired}
use Rattle.ghs_core.specs.NetState.{NetState, network}
use Rattle.ghs_world.proofs.lemmas.Leaving.{next_arrival}
use Rattle.ghs_patient.specs.Choices.{far_takes}
use Rattle.ghs_orders.specs.Marks.{marked_all}
use Rattle.ghs_orders.proofs.Marking.{for_marked}
use Rattle.ghs_orders.proofs.waiting.Waiting.mark_far.Goals as goal

pub mark-requires-clause-place : goal.mark-requires-clause-place
mark-requires-clause-place c =
    let graph : IsGraph c.args.world.now.net.graph = subst (λ (n : NetState). IsGraph n.graph) c.net.ensures.net c.trace.ensures.graph in
    let port =
    All-get_or (λ (s : ℕ × Message). s.0 < length (ports_of c.args.world.now.net.graph.keys c.args.v)) c.args.sends.now c.loop-port.port-index
    c.loop-port-item.result c.loop-port-test.true c.requires.ports in
    rw (c.ports-ports.ensures, c.graph.ensures) ((graph_wired c.args.world.now.net.graph graph).there c.args.v c.loop-port-item.result.0 (record {
      some = c.requires.low;
      node = c.requires.high;
      port = subst (λ (s : ℕ × Message). s.0 < length (ports_of c.args.world.now.net.graph.keys c.args.v)) (sym c.loop-port-item.is) port;
    }))

pub loop-port-preserved : goal.loop-port-preserved
loop-port-preserved c =
    let g = network c.args.world.now.net in
    let is = rw (c.ports-ports.ensures, c.graph.ensures) at c.mark.ensures in (
      rw is (for_marked c.args.world.now (Take (far g c.args.v c.loop-port-item.result.0) (far_port g c.args.v c.loop-port-item.result.0))
          c.loop-port.self c.loop-port.invariant.0),
      ap (marked_all c.args.world.now (far_takes g c.args.v (drop (c.loop-port.port-index + 1) c.args.sends.now))) is
          ∙ sym (ap (λ (es : List Event). marked_all c.args.world.now es c.loop-port.self)
          (next_arrival g c.args.v c.args.sends.now c.loop-port.port-index c.loop-port-item.result c.loop-port-test.true c.loop-port-item.is))
          ∙ c.loop-port.invariant.1,
    )

pub returns : goal.returns
returns c = let end = c.loop-port-test.false in (rw (drop_of_length-le c.args.sends.now end) at c.loop-port.invariant.1)
