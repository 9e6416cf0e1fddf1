use Rattle.std.proofs.Common.{◌≡◌}
use Rattle.peer_knock.specs.Knock.{knocks}
use Rattle.peer_knock.proofs.knock.knock.Given as goal

abbrev pub invariant-loop-port : goal.invariant-loop-port
invariant-loop-port l = l.sends.items ≡ knocks l.port
