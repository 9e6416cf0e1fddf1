use Rattle.std.proofs.Common.{drop}
use Rattle.peer_machine.specs.Net.{event_node}
use Rattle.peer_net.specs.NetState.{network, net_of}
use Rattle.peer_picking.specs.LifoRuns.{newest_in}
use Rattle.peer_picking.proofs.LifoSending.{IsLeft}
use Rattle.peer_picking.proofs.latest.Latest.follow.Given as goal

abbrev pub invariant-loop-port : goal.invariant-loop-port
invariant-loop-port g l =
    IsLeft g.P.Protocol.rules (network l.world.net) (event_node l.fn.placed.event) l.fn.placed.event (drop l.port-index l.sends)
    (net_of g.P.Protocol.rules l.world.net) (newest_in g.P.Protocol.rules l.world.net) l.self
