use Rattle.std.proofs.Common.{length}
use Rattle.peer_channels.proofs.SlotClaims.{SlotsClaimed}
use Rattle.peer_channels.proofs.claims.claim.Given as goal

abbrev pub invariant-loop-port : goal.invariant-loop-port
invariant-loop-port g l = SlotsClaimed l.start (length l.fn.claims) l.sends l.port-index l.fn.queues l.queues l.claims
