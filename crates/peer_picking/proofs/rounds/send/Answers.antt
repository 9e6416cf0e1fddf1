use Rattle.std.proofs.Common.{◌≡◌, ◌+◌}
use Rattle.peer_network.specs.Events.{event_node}
use Rattle.peer_network.specs.Network.{network_of}
use Rattle.peer_network.proofs.lemmas.Graphs.{graph_wired}
use Rattle.peer_index.specs.Places.{far_take}
use Rattle.peer_picking.specs.Kept.{count_of, sent_to, with_count}
use Rattle.peer_picking.proofs.Sending.{sending_next}
use Rattle.peer_picking.proofs.rounds.send.Goals as goal

pub loop-port-preserved : goal.loop-port-preserved
loop-port-preserved g c =
    let n = network_of c.args.graph.now in
    let v = event_node c.args.placed.event in
    let end = sent_to n v c.args.sends.now c.args.round.now in
    let is : c.put.new.self ≡
    with_count n (far_take n v c.loop-port-item.result.0) (count_of n c.loop-port.round (far_take n v c.loop-port-item.result.0) + 1)
    c.loop-port.round =
    rw (c.get-count.ensures, c.far_take_placed-far.ensures.event) at c.put.ensures in
    rw is
    (sending_next n (graph_wired c.args.graph.now c.nodes.ensures.graph) v end c.args.sends.now c.requires.ports c.loop-port.port-index
    c.loop-port-item.result c.loop-port.round c.loop-port-test.true c.loop-port-item.is c.loop-port.invariant)
