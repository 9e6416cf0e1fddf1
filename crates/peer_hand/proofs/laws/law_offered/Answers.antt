use Rattle.peer_hand.proofs.Offered.{offered_next}
use Rattle.peer_hand.proofs.laws.law_offered.Goals as goal

pub returns : goal.returns
returns g c = offered_next g.P.Protocol.rules g.met.P.Protocol.has_rules
