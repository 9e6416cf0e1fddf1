use Rattle.std.proofs.Common.{arith}
use Rattle.peer_channels.specs.Queue.{requeued}
use Rattle.peer_channels.proofs.Places.{port_told, requeued_length}
use Rattle.peer_channels.proofs.Slots.{slot_stands, slot_changed, slot_kept}
use Rattle.peer_channels.proofs.channels.Channels.requeue_from.Goals as goal

pub index_mut-requires : goal.index_mut-requires
index_mut-requires g c =
    let s = slot_stands _ _ c.self.invariant.order c.args.v c.args.port _ (rw (← c.self.view_is) at c.requires.port)
    (port_told _ c.self.invariant.order c.args.v c.args.port _ (rw (← c.self.view_is) at c.requires.port)
    (rw (← c.self.view_is) at c.requires.start)) in
    omega (arith, s)

pub invariant_of-self : goal.invariant_of-self
invariant_of-self g c =
    let s = slot_stands _ _ c.self.invariant.order c.args.v c.args.port _ (rw (← c.self.view_is) at c.requires.port)
    (port_told _ c.self.invariant.order c.args.v c.args.port _ (rw (← c.self.view_is) at c.requires.port)
    (rw (← c.self.view_is) at c.requires.start)) in
    let same = requeued_length _ _ c.requeue.ensures.queue in
    slot_kept _ _ _ _ _ _ _ _ c.self.invariant s c.index_mut.ensures.value c.requeue.ensures.far (omega (arith, same))

pub returns : goal.returns
returns g c =
    rw (← c.self.view_is)
    (slot_changed _ _ c.self.invariant.order c.args.v c.args.port _ requeued _ _ (rw (← c.self.view_is) at c.requires.port)
    (port_told _ c.self.invariant.order c.args.v c.args.port _ (rw (← c.self.view_is) at c.requires.port) (rw (← c.self.view_is) at c.requires.start))
    c.index_mut.ensures.value c.requeue.ensures.queue c.requeue.ensures.far)
