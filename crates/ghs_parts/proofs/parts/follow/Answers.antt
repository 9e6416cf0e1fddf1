use Rattle.std.proofs.Common.{◌≡◌, ◌<◌, ◌≤◌, ◌^◌, ◌++◌, ◌∷◌, ◌∙◌, [], List, ap, arith}
use Rattle.peer_network.specs.declared.event.Event.{Event}
use Rattle.peer_network.specs.Network.{network_of}
use Rattle.ghs_protocol.specs.Run.{IsRun, net_after}
use Rattle.ghs_core.specs.NetState.{net_of}
use Rattle.ghs_parts.specs.Tally.{IsTally}
use Rattle.ghs_core.proofs.lemmas.Lawful.{lawful_node}
use Rattle.ghs_parts.proofs.Tallying.{events_fit, kinds_fit, part_is, place_there, tally_more}
use Rattle.ghs_parts.proofs.parts.follow.Goals as goal

pub add-requires-clause-place : goal.add-requires-clause-place
add-requires-clause-place c =
    let s = c.args.net.now in
    let node = lawful_node (network_of s.graph) (net_of s) c.args.event c.requires.lawful in
    let v = c.node_of-v.ensures in
    let low : 1 ≤ c.node_of-v.result = omega (arith, v, node.0) in
    let high : c.node_of-v.result ≤ s.graph.nodes = omega (arith, v, node.1) in
    let value = c.get-level.ensures.value in
    let within = c.get-level.ensures.within in
    let few : c.get-level.result ≤ 20 = omega (arith, value, within) in
    let parts = c.args.tally.now.parts.items in
    place_there c.args.by s.graph s.trace parts c.args.tally.now.level c.node_of-v.result c.get-level.result c.place.result
    c.row_of-row.result c.requires.tally low high few c.place.ensures

pub add-requires-clause-events : goal.add-requires-clause-events
add-requires-clause-events c =
    let s = c.args.net.now in
    let node = lawful_node (network_of s.graph) (net_of s) c.args.event c.requires.lawful in
    let v = c.node_of-v.ensures in
    let low : 1 ≤ c.node_of-v.result = omega (arith, v, node.0) in
    let high : c.node_of-v.result ≤ s.graph.nodes = omega (arith, v, node.1) in
    let value = c.get-level.ensures.value in
    let within = c.get-level.ensures.within in
    let few : c.get-level.result ≤ 20 = omega (arith, value, within) in
    let parts = c.args.tally.now.parts.items in
    let there = place_there c.args.by s.graph s.trace parts c.args.tally.now.level c.node_of-v.result c.get-level.result c.place.result
    c.row_of-row.result c.requires.tally low high few c.place.ensures in
    events_fit c.args.by s.graph s.trace c.args.tally.now.parts.items c.args.tally.now.level c.place.result c.requires.tally there c.requires.few

pub add-requires-clause-kinds : goal.add-requires-clause-kinds
add-requires-clause-kinds c = λ k small.
    let s = c.args.net.now in
    let node = lawful_node (network_of s.graph) (net_of s) c.args.event c.requires.lawful in
    let v = c.node_of-v.ensures in
    let low : 1 ≤ c.node_of-v.result = omega (arith, v, node.0) in
    let high : c.node_of-v.result ≤ s.graph.nodes = omega (arith, v, node.1) in
    let value = c.get-level.ensures.value in
    let within = c.get-level.ensures.within in
    let few : c.get-level.result ≤ 20 = omega (arith, value, within) in
    let parts = c.args.tally.now.parts.items in
    let there = place_there c.args.by s.graph s.trace parts c.args.tally.now.level c.node_of-v.result c.get-level.result c.place.result
    c.row_of-row.result c.requires.tally low high few c.place.ensures in
    let graph : c.play.new.self.graph ≡ s.graph = c.play.ensures.graph ∙ c.in_ok-reserve.ensures.net.graph in
    let trace : c.play.new.self.trace ≡ s.trace ++ c.args.event ∷ [] =
    c.play.ensures.trace ∙ ap (λ (l : List Event). l ++ c.args.event ∷ []) c.in_ok-reserve.ensures.net.trace in
    let run : IsRun (network_of s.graph) (s.trace ++ c.args.event ∷ []) = rw (graph, trace) at c.trace.ensures.run in
    let same : (net_of c.play.new.self).sent k ≡ (net_after s.graph (s.trace ++ c.args.event ∷ [])).sent k = rw (graph, trace) in
    let sent = c.ledger.ensures.counts.sent k small in
    let small_one = c.are_small.ensures k (omega arith) in
    let fits : (net_after s.graph (s.trace ++ c.args.event ∷ [])).sent k < 2 ^ 64 = omega (arith, same, sent, small_one) in
    rw c.as_slice.ensures
    (kinds_fit c.args.by s.graph s.trace c.args.event c.in_ok-delta.delta c.args.tally.now.parts.items c.args.tally.now.level c.place.result k
    c.requires.tally there small c.in_ok-delta.ensures.answer run fits)

pub returns-clause-tally : goal.returns-clause-tally
returns-clause-tally c =
    let s = c.args.net.now in
    let value = c.get-level.ensures.value in
    let within = c.get-level.ensures.within in
    let graph : c.play.new.self.graph ≡ s.graph = c.play.ensures.graph ∙ c.in_ok-reserve.ensures.net.graph in
    let trace : c.play.new.self.trace ≡ s.trace ++ c.args.event ∷ [] =
    c.play.ensures.trace ∙ ap (λ (l : List Event). l ++ c.args.event ∷ []) c.in_ok-reserve.ensures.net.trace in
    let is = part_is c.args.by s.graph s.trace c.args.event c.play.new.self c.node_of-v.result c.get-level.result c.place.result c.row_of-row.result
    c.node.result.now c.node-2.result.now c.head.result.now c.work.result
    c.node_of-v.ensures c.node.ensures c.work.ensures.work c.row_of-row.ensures.tested
    graph trace c.node-2.ensures c.head.ensures.head c.get-level.ensures.value c.place.ensures in
    let added = rw c.as_slice.ensures at c.add.ensures.parts in
    let tally : IsTally c.args.by s.graph (s.trace ++ c.args.event ∷ []) c.add.new.tally.parts.items c.add.new.tally.level =
    tally_more c.args.by s.graph s.trace c.args.event c.in_ok-delta.delta c.place.result c.get-level.result c.args.tally.now.level
    c.add.new.tally.level
    c.args.tally.now.parts.items c.add.new.tally.parts.items c.requires.tally c.in_ok-delta.ensures.answer is.0 is.1 (omega (arith, value, within))
    added c.add.ensures.level in
    rw (graph, trace) tally
