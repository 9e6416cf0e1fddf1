use Rattle.peer_picking.proofs.Chained.{rounds_are_chains}
use Rattle.peer_picking.proofs.rounds_laws.law_rounds_are_chains.Goals as goal

pub returns : goal.returns
returns g c = rounds_are_chains g.P.Protocol.rules g.met.P.Ends.never_defers g.met.P.Ends.stays_awake g.met.P.Protocol.has_rules
