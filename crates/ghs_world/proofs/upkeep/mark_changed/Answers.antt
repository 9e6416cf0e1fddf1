use Rattle.std.proofs.Math.ListN.{drop_of_length-le}
use Rattle.ghs_core.specs.NetState.{network, event_node}
use Rattle.peer_index.proofs.lemmas.Marks.{of_but}
use Rattle.ghs_world.specs.Upkeep.{lawful_in}
use Rattle.ghs_world.proofs.Arriving.{arrival_marked, sent_port}
use Rattle.ghs_world.proofs.upkeep.mark_changed.Goals as goal

pub mark-requires-2-clause-index : goal.mark-requires-2-clause-index
mark-requires-2-clause-index c = ((rw c.wake.ensures.event at c.mark.ensures) _ c.requires.index).index

pub loop-port-init : goal.loop-port-init
loop-port-init c = c.mark-2.ensures _ ((rw c.wake.ensures.event at c.mark.ensures) _ c.requires.index)

pub mark_far_take_placed-requires-clause-index : goal.mark_far_take_placed-requires-clause-index
mark_far_take_placed-requires-clause-index c = rw c.graph.ensures c.loop-port.invariant.index

pub mark_far_take_placed-requires-clause-port : goal.mark_far_take_placed-requires-clause-port
mark_far_take_placed-requires-clause-port c =
    rw c.graph.ensures
    (sent_port c.args.net.now.graph c.args.placed.event c.args.sends.now c.loop-port.port-index c.loop-port-item.result
    c.requires.placed.event c.requires.ports c.loop-port-test.true c.loop-port-item.is)

pub loop-port-preserved : goal.loop-port-preserved
loop-port-preserved c =
    let at = sent_port c.args.net.now.graph c.args.placed.event c.args.sends.now c.loop-port.port-index c.loop-port-item.result
    c.requires.placed.event c.requires.ports c.loop-port-test.true c.loop-port-item.is in
    arrival_marked c.args.net.now c.args.wake
    (event_node c.args.placed.event) c.loop-port.port-index c.args.sends.now c.loop-port-item.result c.loop-port.index
    c.mark_far_take_placed.new.self c.trace.ensures.graph at c.requires.arrived c.loop-port-test.true c.loop-port-item.is
    (rw c.graph.ensures at c.mark_far_take_placed.ensures) c.loop-port.invariant

pub returns : goal.returns
returns c =
    let end = c.loop-port-test.false in
    of_but (network c.args.net.now) (lawful_in c.args.net.now c.args.wake) c.loop-port.index
    (rw (drop_of_length-le c.args.sends.now end) at c.loop-port.invariant)
