use Rattle.peer_picking.proofs.Picking.{lifo_run_is_one}
use Rattle.peer_picking.proofs.lifo_laws.law_lifo_run.Goals as goal

pub returns : goal.returns
returns g c = λ r. lifo_run_is_one r
