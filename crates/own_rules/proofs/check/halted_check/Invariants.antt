use Rattle.std.proofs.Common.{◌≡◌, not, None}
use Rattle.peer_net.specs.NetState.{net_of}
use Rattle.own_rules.specs.Check.{first_node}
use Rattle.own_rules.specs.Rules.{halts}
use Rattle.own_rules.proofs.check.halted_check.Given as goal

abbrev pub invariant-loop-i : goal.invariant-loop-i
invariant-loop-i g l = first_node (λ v. not (halts l.rules ((net_of g.P.Protocol.rules l.net).node v).state)) l.i ≡ None
