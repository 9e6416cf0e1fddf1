use Rattle.std.proofs.Common.{arith, refl}
use Rattle.peer_network.specs.Network.{network_of}
use Rattle.peer_index.specs.Places.{far_take}
use Rattle.peer_index.proofs.FarEnds.{far_has, place_few, take_laid, wake_laid}
use Rattle.peer_index.proofs.ends.lay_node.Goals as goal

pub loop-port-init : goal.loop-port-init
loop-port-init c = wake_laid (network_of c.args.graph.now) c.args.bases.now c.args.v c.requires.bases c.requires.low c.requires.high
    c.args.ends.now.items c.push.new.self.items _ c.requires.before refl c.in_ok-push.ensures.items

pub place_of-requires-clause-place : goal.place_of-requires-clause-place
place_of-requires-clause-place c =
    let lt = rw c.ports-port-items.ensures at c.loop-port-test.true in
    rw c.ports-port-items.ensures (far_has c.args.graph.now c.args.v c.loop-port.port-index c.nodes-base.ensures.graph
    (record { some = c.requires.low; node = c.requires.high; port = lt }))

pub overflow_cast-place_of : goal.overflow_cast-place_of
overflow_cast-place_of c =
    let lt = rw c.ports-port-items.ensures at c.loop-port-test.true in
    let has =
    far_has c.args.graph.now c.args.v c.loop-port.port-index c.nodes-base.ensures.graph
    (record { some = c.requires.low; node = c.requires.high; port = lt }) in
    let few = place_few c.args.graph.now (far_take (network_of c.args.graph.now) c.args.v c.loop-port.port-index) c.nodes-base.ensures.graph has in
    let is = rw c.ports-port-items.ensures at c.place_of.ensures in
    omega arith

pub loop-port-preserved : goal.loop-port-preserved
loop-port-preserved c =
    let lt = rw c.ports-port-items.ensures at c.loop-port-test.true in
    take_laid (network_of c.args.graph.now) c.args.bases.now c.args.v c.requires.bases c.requires.low c.requires.high c.loop-port.port-index
    c.loop-port.ends.items c.push-in-loop-port.new.self.items _ _ lt c.loop-port.invariant
    (rw c.ports-port-items.ensures at c.place_of.ensures) refl c.in_ok-push-2.ensures.items
