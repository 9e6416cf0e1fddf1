use Rattle.std.proofs.Common.{◌∙◌, sym, ap}
use Rattle.peer_channels.specs.Channels.{total_of}
use Rattle.peer_channels.proofs.Places.{total_is}
use Rattle.peer_channels.proofs.channels.Channels.total.Goals as goal

pub returns : goal.returns
returns g c = c.self.invariant.total ∙ sym (total_is _ c.self.invariant.order) ∙ ap total_of c.self.view_is
