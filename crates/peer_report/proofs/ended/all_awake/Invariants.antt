use Rattle.std.proofs.Common.{◌≡◌, ℕ, ◌<◌, ◌≤◌, false}
use Rattle.peer_net.specs.NetState.{net_of}
use Rattle.peer_report.proofs.ended.all_awake.Given as goal

abbrev pub invariant-loop-v : goal.invariant-loop-v
invariant-loop-v g l = (x : ℕ) → 1 ≤ x → x < l.v → g.P.Protocol.rules.is_asleep ((net_of g.P.Protocol.rules l.net).node x) ≡ false
