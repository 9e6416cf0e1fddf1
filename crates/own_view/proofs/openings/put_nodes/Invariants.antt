use Rattle.std.proofs.Common.{◌≡◌, ◌++◌}
use Rattle.own_view.specs.Openings.{openings_to}
use Rattle.peer_net.specs.NetState.{net_of}
use Rattle.own_view.proofs.openings.put_nodes.Given as goal

abbrev pub invariant-loop-i : goal.invariant-loop-i
invariant-loop-i g l =
    l.text.items ≡ l.fn.text.items ++ openings_to g.P.Spoken.words l.net.graph (net_of g.P.Protocol.rules l.net).node l.i
