use Rattle.std.proofs.Common.{◌*◌, ◌^◌, ◌≤◌, take}
use Rattle.ghs_graph.specs.Graph.{Shape}
use Rattle.peer_machine.specs.Rules.{messages}
use Rattle.peer_lengths.proofs.Measuring.{ComeTo}
use Rattle.peer_lengths.proofs.sent.measure.Given as goal

abbrev pub invariant-loop-i : goal.invariant-loop-i
invariant-loop-i g l = record {
  few : l.bits ≤ 2 ^ 32 * l.i;
  come : (s : Shape) → g.P.Measured.is_of s l.scale → ComeTo g.P.Protocol.rules s (messages (take l.i l.sends)) l.bits l.longest;
}
