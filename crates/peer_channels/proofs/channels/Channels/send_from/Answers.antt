use Rattle.std.proofs.Common.{arith}
use Rattle.peer_channels.specs.Queue.{pushed}
use Rattle.peer_channels.proofs.Places.{port_told, total_is, pushed_length}
use Rattle.peer_channels.proofs.Slots.{slot_stands, slot_kept, far_slot, far_slot_state, far_slot_changed}
use Rattle.peer_channels.proofs.channels.Channels.send_from.Goals as goal

pub index-requires : goal.index-requires
index-requires g c =
    let s = slot_stands _ _ c.self.invariant.order c.args.v c.args.port _ (rw (← c.self.view_is) at c.requires.port)
    (port_told _ c.self.invariant.order c.args.v c.args.port _ (rw (← c.self.view_is) at c.requires.port)
    (rw (← c.self.view_is) at c.requires.start)) in
    omega (arith, s)

pub index_mut-requires : goal.index_mut-requires
index_mut-requires g c =
    let s = far_slot _ _ c.self.invariant.order c.args.v c.args.port _ _ (rw (← c.self.view_is) at c.requires.port)
    (port_told _ c.self.invariant.order c.args.v c.args.port _ (rw (← c.self.view_is) at c.requires.port) (rw (← c.self.view_is) at c.requires.start))
    _ c.far-to.ensures c.index.ensures in
    omega (arith, s)

pub push-requires : goal.push-requires
push-requires g c =
    rw (far_slot_state _ _ c.self.invariant.order c.args.v c.args.port _ _ (rw (← c.self.view_is) at c.requires.port)
    (port_told _ c.self.invariant.order c.args.v c.args.port _ (rw (← c.self.view_is) at c.requires.port) (rw (← c.self.view_is) at c.requires.start))
    _ c.far-to.ensures c.index.ensures _ c.index_mut.ensures.value)
    (rw (← c.self.view_is) at c.requires.room)

pub overflow_add-self : goal.overflow_add-self
overflow_add-self g c =
    let few = rw (← c.self.view_is) at c.requires.total in
    let all = total_is _ c.self.invariant.order in
    omega (arith, few, all, c.self.invariant.total)

pub invariant_of-self : goal.invariant_of-self
invariant_of-self g c =
    let s = far_slot _ _ c.self.invariant.order c.args.v c.args.port _ _ (rw (← c.self.view_is) at c.requires.port)
    (port_told _ c.self.invariant.order c.args.v c.args.port _ (rw (← c.self.view_is) at c.requires.port) (rw (← c.self.view_is) at c.requires.start))
    _ c.far-to.ensures c.index.ensures in
    let more = pushed_length _ _ _ c.push.ensures.queue in
    slot_kept _ _ _ _ _ _ _ _ c.self.invariant s c.index_mut.ensures.value c.push.ensures.far (omega (arith, more))

pub returns : goal.returns
returns g c =
    rw (← c.self.view_is)
    (far_slot_changed _ _ c.self.invariant.order c.args.v c.args.port _ _ (rw (← c.self.view_is) at c.requires.port)
    (port_told _ c.self.invariant.order c.args.v c.args.port _ (rw (← c.self.view_is) at c.requires.port) (rw (← c.self.view_is) at c.requires.start))
    _ c.far-to.ensures c.index.ensures (λ q. pushed q c.args.message) _ _ c.index_mut.ensures.value c.push.ensures.queue c.push.ensures.far)
