use Rattle.std.proofs.Common.{drop}
use Rattle.peer_channels.specs.Kept.{ClaimsOnly}
use Rattle.peer_channels.proofs.claims.unclaim.Given as goal

abbrev pub invariant-loop-port : goal.invariant-loop-port
invariant-loop-port g l = ClaimsOnly (drop l.port-index l.sends) l.claims
