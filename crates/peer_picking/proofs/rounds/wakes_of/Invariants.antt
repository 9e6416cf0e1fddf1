use Rattle.peer_picking.proofs.Opening.{HasOpenedTo}
use Rattle.peer_picking.proofs.rounds.wakes_of.Given as goal

abbrev pub invariant-loop-v : goal.invariant-loop-v
invariant-loop-v g l = HasOpenedTo g.P.Protocol.rules l.world l.v l.round
