use Rattle.std.proofs.Common.{length, arith, ap, refl, ◌∙◌}
use Rattle.peer_channels.specs.Queue.{QueueState}
use Rattle.peer_channels.proofs.Places.{port_told}
use Rattle.peer_channels.proofs.Slots.{slot_stands, slot_state}
use Rattle.peer_channels.proofs.channels.Channels.len_from.Goals as goal

pub index-requires : goal.index-requires
index-requires g c =
    let s = slot_stands _ _ c.self.invariant.order c.args.v c.args.port _ (rw (← c.self.view_is) at c.requires.port)
    (port_told _ c.self.invariant.order c.args.v c.args.port _ (rw (← c.self.view_is) at c.requires.port)
    (rw (← c.self.view_is) at c.requires.start)) in
    omega (arith, s)

pub returns : goal.returns
returns g c =
    let state =
    slot_state _ _ c.self.invariant.order c.args.v c.args.port _ _ (rw (← c.self.view_is) at c.requires.port)
    (port_told _ c.self.invariant.order c.args.v c.args.port _ (rw (← c.self.view_is) at c.requires.port)
    (rw (← c.self.view_is) at c.requires.start)) c.index.ensures in
    c.len.ensures ∙ ap (λ (q : QueueState g.row.M.Denot). length q.list) state ∙ rw c.self.view_is refl
