use Rattle.std.proofs.Common.{◌<◌, ◌+◌, ◌∙◌, ℕ, List, ap, drop, length, subst, sym}
use Rattle.std.proofs.Math.ListN.{drop_of_length-le}
use Rattle.std.proofs.lemmas.List.Elements.{All-get_or}
use Rattle.ghs_graph.specs.Ports.{ports_of}
use Rattle.ghs_node.specs.declared.message.Message.{Message}
use Rattle.peer_network.specs.declared.event.Event.{Event}
use Rattle.peer_network.specs.declared.event.Event.TheVariants.{Take}
use Rattle.peer_network.specs.Network.{far, far_port}
use Rattle.ghs_core.specs.NetState.{event_node, network}
use Rattle.ghs_world.proofs.lemmas.Leaving.{next_arrival}
use Rattle.ghs_patient.specs.Choices.{far_takes, marked_all}
use Rattle.ghs_patient.proofs.Marking.{for_marked}
use Rattle.ghs_patient.proofs.lemmas.Places.{own_node}
use Rattle.ghs_patient.proofs.choices.Choices.mark_far.Goals as goal

pub far_take_placed-requires-clause-port : goal.far_take_placed-requires-clause-port
far_take_placed-requires-clause-port c =
    let own = own_node (network c.args.world.now.net) c.args.placed.event c.requires.placed.event in
    let port =
    All-get_or (λ (s : ℕ × Message). s.0 < length (ports_of c.args.world.now.net.graph.keys (event_node c.args.placed.event)))
    c.args.sends.now c.loop-port.port-index c.loop-port-item.result c.loop-port-test.true c.requires.ports in
    record {
      some = own.0;
      node = own.1;
      port = subst (λ (s : ℕ × Message). s.0 < length (ports_of c.args.world.now.net.graph.keys (event_node c.args.placed.event)))
          (sym c.loop-port-item.is) port;
    }

pub loop-port-preserved : goal.loop-port-preserved
loop-port-preserved c =
    let g = network c.args.world.now.net in
    let v = event_node c.args.placed.event in
    let is = rw c.far_take_placed.ensures.event at c.mark.ensures in (
      rw is (for_marked c.args.world.now (Take (far g v c.loop-port-item.result.0) (far_port g v c.loop-port-item.result.0))
          c.loop-port.self c.loop-port.invariant.0),
      ap (marked_all c.args.world.now (far_takes g v (drop (c.loop-port.port-index + 1) c.args.sends.now))) is
          ∙ sym (ap (λ (es : List Event). marked_all c.args.world.now es c.loop-port.self)
          (next_arrival g v c.args.sends.now c.loop-port.port-index c.loop-port-item.result c.loop-port-test.true c.loop-port-item.is))
          ∙ c.loop-port.invariant.1,
    )

pub returns : goal.returns
returns c = let end = c.loop-port-test.false in (rw (drop_of_length-le c.args.sends.now end) at c.loop-port.invariant.1)
