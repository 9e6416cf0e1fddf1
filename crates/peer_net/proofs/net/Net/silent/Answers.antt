use Rattle.peer_net.proofs.Reading.{silent_so}
use Rattle.peer_net.proofs.net.Net.silent.Goals as goal

pub returns : goal.returns
returns g c = rw (← c.self.view_is, c.total.ensures) (silent_so c.self.invariant.1 g.met.P.Protocol.has_kinds)
