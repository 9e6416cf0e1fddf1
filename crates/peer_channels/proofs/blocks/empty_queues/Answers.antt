use Rattle.std.proofs.Common.{◌+◌, refl, arith}
use Rattle.peer_channels.proofs.Laying.{far_inside, far_few, slot_step}
use Rattle.peer_channels.proofs.blocks.empty_queues.Goals as goal

pub bounds-starts-port : goal.bounds-starts-port
bounds-starts-port g c =
    let lt = rw c.ports-port-items.ensures at c.loop-port-test.true in
    rw c.ports-port-items.ensures
    (far_inside c.args.graph.now c.nodes-nodes.ensures.graph c.args.starts.now c.requires (c.loop-i.i + 1) c.loop-port.port-index lt)

pub overflow_add-starts : goal.overflow_add-starts
overflow_add-starts g c =
    let lt = rw c.ports-port-items.ensures at c.loop-port-test.true in
    let few = far_few c.args.graph.now c.nodes-nodes.ensures.graph c.args.starts.now c.requires (c.loop-i.i + 1) c.loop-port.port-index lt in
    rw c.ports-port-items.ensures (omega (arith, few))

pub new-requires : goal.new-requires
new-requires g c =
    let lt = rw c.ports-port-items.ensures at c.loop-port-test.true in
    let few = far_few c.args.graph.now c.nodes-nodes.ensures.graph c.args.starts.now c.requires (c.loop-i.i + 1) c.loop-port.port-index lt in
    rw c.ports-port-items.ensures (omega (arith, few))

pub loop-port-preserved : goal.loop-port-preserved
loop-port-preserved g c =
    let lt = rw c.ports-port-items.ensures at c.loop-port-test.true in
    slot_step c.args.graph.now c.nodes-nodes.ensures.graph c.args.starts.now c.requires c.loop-port.queues.items _ _ c.loop-i.i
    c.loop-port.port-index _ (omega (arith, c.nodes-nodes.ensures.nodes)) lt c.loop-port.invariant (rw c.ports-port-items.ensures refl)
    c.new.ensures.list c.new.ensures.far c.in_ok-push.ensures.items
