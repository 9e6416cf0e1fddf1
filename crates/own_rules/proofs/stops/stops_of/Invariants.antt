use Rattle.std.proofs.Common.{◌≡◌}
use Rattle.own_rules.specs.Stops.{stops_in}
use Rattle.peer_net.specs.NetState.{net_of}
use Rattle.own_rules.proofs.stops.stops_of.Given as goal

abbrev pub invariant-loop-i : goal.invariant-loop-i
invariant-loop-i g l = l.stops.items ≡ stops_in (net_of g.P.Protocol.rules l.net).node l.i
