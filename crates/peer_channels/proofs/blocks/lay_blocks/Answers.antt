use Rattle.std.proofs.Common.{◌≡◌, ◌+◌, length, refl, ap, arith}
use Rattle.std.proofs.lemmas.Grind.{common_steps}
use Rattle.peer_channels.proofs.lemmas.Ports.{ports_few}
use Rattle.peer_channels.proofs.Laying.{no_blocks, blocks_step, next_few}
use Rattle.peer_channels.proofs.blocks.lay_blocks.Goals as goal

pub loop-i-init : goal.loop-i-init
loop-i-init c = rw (c.in_ok-push-2.ensures.items, c.in_ok-push.ensures.items, c.in_ok-starts.ensures.items) (no_blocks _, refl)

pub overflow_cast-end : goal.overflow_cast-end
overflow_cast-end c =
    let few = ports_few c.args.graph.now c.nodes-nodes.ensures.graph (c.loop-i.i + 1) in
    let e = ap length c.ports-degree.ensures in
    omega (arith, few, e)

pub overflow_add-end : goal.overflow_add-end
overflow_add-end c =
    let few = next_few _ c.nodes-nodes.ensures.graph c.loop-i.i _ _ c.loop-i.invariant.0 (omega (arith, c.nodes-nodes.ensures.nodes)) in
    let e = ap length c.ports-degree.ensures in
    omega (arith, few, e, c.loop-i.invariant.1)

pub loop-i-preserved : goal.loop-i-preserved
loop-i-preserved c =
    blocks_step _ c.nodes-nodes.ensures.graph c.loop-i.i c.loop-i.starts.items _ c.loop-i.widest c.loop-i.end _ _
    (omega (arith, c.nodes-nodes.ensures.nodes)) c.loop-i.invariant (rw c.max-widest.ensures (grind (arith, common_steps)))
    (rw c.max-widest.ensures (grind (arith, common_steps))) (ap length c.ports-degree.ensures) c.in_ok-push-3.ensures.items

pub returns-clause-blocks : goal.returns-clause-blocks
returns-clause-blocks c =
    let e : c.loop-i.i ≡ c.args.graph.now.nodes = omega (arith, c.nodes-nodes.ensures.nodes) in
    rw e at c.loop-i.invariant.0
