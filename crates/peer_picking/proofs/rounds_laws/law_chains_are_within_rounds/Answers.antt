use Rattle.peer_picking.proofs.Chained.{chains_are_within}
use Rattle.peer_picking.proofs.rounds_laws.law_chains_are_within_rounds.Goals as goal

pub returns : goal.returns
returns g c = chains_are_within g.P.Protocol.rules g.met.P.Ends.never_defers g.met.P.Ends.stays_awake g.met.P.Protocol.has_rules
