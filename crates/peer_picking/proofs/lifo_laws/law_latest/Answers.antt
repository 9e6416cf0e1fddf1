use Rattle.peer_picking.proofs.Picking.{latest_is_one}
use Rattle.peer_picking.proofs.lifo_laws.law_latest.Goals as goal

pub returns : goal.returns
returns g c = λ r. latest_is_one r
