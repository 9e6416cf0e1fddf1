use Rattle.std.proofs.Common.{arith, ap, ◌∙◌}
use Rattle.peer_channels.specs.Channels.{ChannelsState, first_queue}
use Rattle.peer_channels.proofs.Places.{node_inside, first_found}
use Rattle.peer_channels.proofs.channels.Channels.start.Goals as goal

pub index-requires : goal.index-requires
index-requires g c =
    let inside = node_inside _ c.self.invariant.order c.args.v (rw (← c.self.view_is) at c.requires) in
    omega (arith, inside)

pub returns : goal.returns
returns g c =
    first_found _ c.self.invariant.order c.args.v _ (rw (← c.self.view_is) at c.requires) c.index.ensures ∙
    ap (λ (l : ChannelsState g.row.M.Denot). first_queue l c.args.v) c.self.view_is
