use Rattle.peer_net.specs.NetState.{net_of}
use Rattle.own_rules.proofs.Checking.{Counted}
use Rattle.own_rules.proofs.check.leader_counts.Given as goal

abbrev pub invariant-loop-i : goal.invariant-loop-i
invariant-loop-i g l = Counted l.rules l.net.graph (net_of g.P.Protocol.rules l.net).node l.i l.counts.items
