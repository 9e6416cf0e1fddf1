use Rattle.std.proofs.Common.{arith, ap, refl, ◌∙◌}
use Rattle.std.specs.List.{slice_get}
use Rattle.peer_channels.specs.Queue.{QueueState}
use Rattle.peer_channels.proofs.Places.{port_told}
use Rattle.peer_channels.proofs.Slots.{slot_stands, slot_state}
use Rattle.peer_channels.proofs.channels.Channels.first_from.Goals as goal

pub index-requires : goal.index-requires
index-requires g c =
    let s = slot_stands _ _ c.self.invariant.order c.args.v c.args.port _ (rw (← c.self.view_is) at c.requires.port)
    (port_told _ c.self.invariant.order c.args.v c.args.port _ (rw (← c.self.view_is) at c.requires.port)
    (rw (← c.self.view_is) at c.requires.start)) in
    omega (arith, s)

pub returns : goal.returns
returns g c =
    let state =
    slot_state _ _ c.self.invariant.order c.args.v c.args.port _ _ (rw (← c.self.view_is) at c.requires.port)
    (port_told _ c.self.invariant.order c.args.v c.args.port _ (rw (← c.self.view_is) at c.requires.port)
    (rw (← c.self.view_is) at c.requires.start)) c.index.ensures in
    c.first.ensures ∙ ap (λ (q : QueueState g.row.M.Denot). slice_get q.list 0) state ∙ rw c.self.view_is refl
