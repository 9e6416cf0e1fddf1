use Rattle.std.proofs.Common.{arith, ap, refl, ◌∙◌}
use Rattle.std.specs.List.{slice_get}
use Rattle.peer_channels.specs.Queue.{QueueState, taken}
use Rattle.peer_channels.proofs.Places.{port_told, taken_length}
use Rattle.peer_channels.proofs.Slots.{slot_stands, slot_state, slot_changed, slot_kept, slot_waits}
use Rattle.peer_channels.proofs.channels.Channels.take_front_from.Goals as goal

pub index_mut-requires : goal.index_mut-requires
index_mut-requires g c =
    let s = slot_stands _ _ c.self.invariant.order c.args.v c.args.port _ (rw (← c.self.view_is) at c.requires.port)
    (port_told _ c.self.invariant.order c.args.v c.args.port _ (rw (← c.self.view_is) at c.requires.port)
    (rw (← c.self.view_is) at c.requires.start)) in
    omega (arith, s)

pub overflow_sub-self : goal.overflow_sub-self
overflow_sub-self g c =
    let s = slot_stands _ _ c.self.invariant.order c.args.v c.args.port _ (rw (← c.self.view_is) at c.requires.port)
    (port_told _ c.self.invariant.order c.args.v c.args.port _ (rw (← c.self.view_is) at c.requires.port)
    (rw (← c.self.view_is) at c.requires.start)) in
    let fewer = taken_length _ _ _ c.take_front-first.ensures.left c.take_front-first.ensures.first in
    let some = slot_waits _ _ _ _ _ _ c.self.invariant s c.index_mut.ensures.value in
    omega (arith, fewer, some, c.count.ensures)

pub invariant_of-self : goal.invariant_of-self
invariant_of-self g c =
    let s = slot_stands _ _ c.self.invariant.order c.args.v c.args.port _ (rw (← c.self.view_is) at c.requires.port)
    (port_told _ c.self.invariant.order c.args.v c.args.port _ (rw (← c.self.view_is) at c.requires.port)
    (rw (← c.self.view_is) at c.requires.start)) in
    let fewer = taken_length _ _ _ c.take_front-first.ensures.left c.take_front-first.ensures.first in
    let some = slot_waits _ _ _ _ _ _ c.self.invariant s c.index_mut.ensures.value in
    slot_kept _ _ _ _ _ _ _ _ c.self.invariant s c.index_mut.ensures.value c.take_front-first.ensures.far
    (omega (arith, fewer, some, c.count.ensures))

pub returns-clause-first : goal.returns-clause-first
returns-clause-first g c =
    let state = slot_state _ _ c.self.invariant.order c.args.v c.args.port _ _ (rw (← c.self.view_is) at c.requires.port)
    (port_told _ c.self.invariant.order c.args.v c.args.port _ (rw (← c.self.view_is) at c.requires.port) (rw (← c.self.view_is) at c.requires.start))
    c.index_mut.ensures.value in
    c.take_front-first.ensures.first ∙ ap (λ (q : QueueState g.row.M.Denot). slice_get q.list 0) state ∙ rw c.self.view_is refl

pub returns-clause-left : goal.returns-clause-left
returns-clause-left g c =
    rw (← c.self.view_is)
    (slot_changed _ _ c.self.invariant.order c.args.v c.args.port _ taken _ _ (rw (← c.self.view_is) at c.requires.port)
    (port_told _ c.self.invariant.order c.args.v c.args.port _ (rw (← c.self.view_is) at c.requires.port) (rw (← c.self.view_is) at c.requires.start))
    c.index_mut.ensures.value c.take_front-first.ensures.left c.take_front-first.ensures.far)
