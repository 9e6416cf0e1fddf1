use Rattle.std.proofs.Common.{◌≡◌, replicate}
use Rattle.peer_parts.proofs.nodes.NodeParts.none.Given as goal

abbrev pub invariant-loop : goal.invariant-loop
invariant-loop g l = l.parts.items ≡ replicate l.counter (replicate g.P.Protocol.rules.kinds 0)
