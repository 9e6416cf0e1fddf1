use Rattle.std.proofs.Common.{arith, ap, ◌∙◌}
use Rattle.peer_channels.specs.Channels.{first_queue}
use Rattle.ghs_core.specs.NetState.{NetState}
use Rattle.ghs_core.proofs.net.Net.start.Goals as goal

pub start-requires : goal.start-requires
start-requires c =
    let count = c.self.invariant.queues.count in
    let high = rw (← c.self.view_is) at c.requires.high in
    omega (arith, count, high)

pub returns : goal.returns
returns c = c.start.ensures ∙ ap (λ (s : NetState). first_queue s.channels c.args.v) c.self.view_is
