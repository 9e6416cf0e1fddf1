use Rattle.std.proofs.Common.{◌≡◌, ◌<◌, ◌+◌, ◌∙◌, ℕ, List, ap, drop, length, length-set, subst, sym}
use Rattle.std.proofs.Math.ListN.{drop_of_length-le}
use Rattle.std.proofs.lemmas.List.Elements.{All-get_or}
use Rattle.ghs_graph.specs.Graph.{IsGraph}
use Rattle.ghs_graph.specs.Ports.{ports_of}
use Rattle.ghs_node.specs.declared.message.Message.{Message}
use Rattle.peer_network.specs.declared.event.Event.{Event}
use Rattle.peer_network.specs.declared.event.Event.TheVariants.{Take}
use Rattle.peer_network.specs.Network.{far, far_port}
use Rattle.peer_network.proofs.lemmas.Graphs.{graph_wired}
use Rattle.ghs_core.specs.NetState.{NetState, network}
use Rattle.peer_index.specs.Places.{place}
use Rattle.ghs_world.proofs.lemmas.Leaving.{next_arrival}
use Rattle.ghs_patient.specs.Choices.{far_takes}
use Rattle.ghs_orders.specs.Kept.{rank_in, ranked, ranked_all}
use Rattle.ghs_orders.proofs.ranks.Ranks.rank_far.Goals as goal

pub rank-requires-clause-place : goal.rank-requires-clause-place
rank-requires-clause-place c =
    let graph : IsGraph c.args.world.now.net.graph = subst (λ (n : NetState). IsGraph n.graph) c.net.ensures.net c.trace.ensures.graph in
    let port = All-get_or (λ (s : ℕ × Message). s.0 < length (ports_of c.args.world.now.net.graph.keys c.args.v)) c.args.sends.now
    c.loop-port.port-index c.loop-port-item.result c.loop-port-test.true c.requires.ports in
    rw (c.ports-ports.ensures, c.graph.ensures) ((graph_wired c.args.world.now.net.graph graph).there c.args.v c.loop-port-item.result.0 (record {
      some = c.requires.low;
      node = c.requires.high;
      port = subst (λ (s : ℕ × Message). s.0 < length (ports_of c.args.world.now.net.graph.keys c.args.v)) (sym c.loop-port-item.is) port;
    }))

pub rank-requires-clause-many : goal.rank-requires-clause-many
rank-requires-clause-many c = c.loop-port.invariant.many

pub loop-port-preserved : goal.loop-port-preserved
loop-port-preserved c =
    let s = c.args.world.now in
    let g = network s.net in
    let newest = c.args.numbers.now.newest in
    let e : Event = Take (far g c.args.v c.loop-port-item.result.0) (far_port g c.args.v c.loop-port-item.result.0) in
    let is : c.rank.new.self ≡ ranked s newest e c.loop-port.self = rw (c.ports-ports.ensures, c.graph.ensures) at c.rank.ensures in
    record {
      many = ap length is ∙ length-set c.loop-port.self (place g e) (rank_in s newest e) ∙ c.loop-port.invariant.many;
      ranked =
          ap (ranked_all s newest (far_takes g c.args.v (drop (c.loop-port.port-index + 1) c.args.sends.now))) is
          ∙ sym (ap (λ (es : List Event). ranked_all s newest es c.loop-port.self)
          (next_arrival g c.args.v c.args.sends.now c.loop-port.port-index c.loop-port-item.result c.loop-port-test.true c.loop-port-item.is))
          ∙ c.loop-port.invariant.ranked;
    }

pub returns : goal.returns
returns c = let end = c.loop-port-test.false in (rw (drop_of_length-le c.args.sends.now end) at c.loop-port.invariant.ranked)
