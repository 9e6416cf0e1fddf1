use Rattle.std.proofs.Common.{take}
use Rattle.peer_machine.specs.Rules.{messages}
use Rattle.peer_parts.specs.Kept.{HasCounted}
use Rattle.peer_parts.proofs.counting.count.Given as goal

abbrev pub invariant-loop-i : goal.invariant-loop-i
invariant-loop-i g l = HasCounted g.P.Protocol.rules (messages (take l.i l.sends)) l.fn.counts.items l.counts.items
