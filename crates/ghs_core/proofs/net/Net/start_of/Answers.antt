use Rattle.std.proofs.Common.{◌∙◌, ap}
use Rattle.peer_channels.specs.Channels.{first_queue}
use Rattle.ghs_core.specs.NetState.{NetState, event_node}
use Rattle.ghs_core.proofs.net.Net.start_of.Goals as goal

pub start_of-requires : goal.start_of-requires
start_of-requires c = (c.self.inside.graph, c.self.invariant.queues, rw (← c.self.view_is) at c.requires)

pub returns : goal.returns
returns c =
    c.start_of.ensures ∙ ap (λ (s : NetState). first_queue s.channels (event_node c.args.placed.event)) c.self.view_is
