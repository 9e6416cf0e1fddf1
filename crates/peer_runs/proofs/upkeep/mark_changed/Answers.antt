use Rattle.std.proofs.Common.{ℕ, sym, subst}
use Rattle.std.proofs.Math.ListN.{drop_of_length-le}
use Rattle.std.proofs.lemmas.List.Elements.{All-get_or}
use Rattle.peer_machine.specs.Net.{event_node}
use Rattle.peer_index.proofs.lemmas.Marks.{of_but}
use Rattle.peer_net.specs.NetState.{network, net_of}
use Rattle.peer_runs.specs.WorldState.{lawful_in}
use Rattle.peer_runs.specs.Upkeep.{HasArrived}
use Rattle.peer_runs.proofs.Keeping.{arrival_marked}
use Rattle.peer_runs.proofs.upkeep.mark_changed.Goals as goal

pub mark-requires-clause-placed : goal.mark-requires-clause-placed
mark-requires-clause-placed g c = c.wake.ensures.placed _ c.requires.placed

pub mark-requires-2-clause-index : goal.mark-requires-2-clause-index
mark-requires-2-clause-index g c = ((rw c.wake.ensures.event at c.mark.ensures) _ c.requires.stale.index).index

pub loop-port-init : goal.loop-port-init
loop-port-init g c = c.mark-2.ensures _ ((rw c.wake.ensures.event at c.mark.ensures) _ c.requires.stale.index)

pub mark_far_take_placed-requires-clause-index : goal.mark_far_take_placed-requires-clause-index
mark_far_take_placed-requires-clause-index g c = rw c.graph.ensures c.loop-port.invariant.index

pub mark_far_take_placed-requires-clause-placed : goal.mark_far_take_placed-requires-clause-placed
mark_far_take_placed-requires-clause-placed g c = rw c.graph.ensures c.requires.placed

pub mark_far_take_placed-requires-clause-port : goal.mark_far_take_placed-requires-clause-port
mark_far_take_placed-requires-clause-port g c =
    let n = c.args.net.now in
    let v = event_node c.args.placed.event in
    let r = g.P.Protocol.rules in
    let s = c.loop-port-item.result in
    let one =
    subst (λ (m : ℕ × _). HasArrived (network n) (net_of r n) v m.0) (sym c.loop-port-item.is)
    (All-get_or (λ (m : ℕ × _). HasArrived (network n) (net_of r n) v m.0) c.args.sends.now c.loop-port.port-index s c.loop-port-test.true
    c.requires.stale.arrived) in
    rw c.graph.ensures one.port

pub loop-port-preserved : goal.loop-port-preserved
loop-port-preserved g c =
    arrival_marked g.P.Protocol.rules c.args.net.now c.args.wake (event_node c.args.placed.event) c.loop-port.port-index c.args.sends.now
    c.loop-port-item.result c.loop-port.index c.mark_far_take_placed.new.self c.trace.ensures.graph c.requires.stale.arrived c.loop-port-test.true
    c.loop-port-item.is (rw c.graph.ensures at c.mark_far_take_placed.ensures) c.loop-port.invariant

pub returns : goal.returns
returns g c =
    of_but (network c.args.net.now) (lawful_in g.P.Protocol.rules c.args.net.now c.args.wake) c.loop-port.index
    (rw (drop_of_length-le c.args.sends.now c.loop-port-test.false) at c.loop-port.invariant)
