use Rattle.peer_picking.proofs.Picking.{picks_are_one}
use Rattle.peer_picking.proofs.lifo_laws.law_picks.Goals as goal

pub returns : goal.returns
returns g c = λ r. picks_are_one r
