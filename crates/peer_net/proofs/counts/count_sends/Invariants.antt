use Rattle.std.proofs.Common.{take}
use Rattle.peer_net.specs.Counts.{CountsSends}
use Rattle.peer_net.proofs.counts.count_sends.Given as goal

abbrev pub invariant-loop-i : goal.invariant-loop-i
invariant-loop-i g l = CountsSends g.P.Protocol.rules (take l.i l.sends) l.fn.counts l.counts
