use Rattle.peer_runs.proofs.Picking.{seeded_run_is_one}
use Rattle.peer_runs.proofs.laws.law_seeded_run.Goals as goal

pub returns : goal.returns
returns g c = λ r. seeded_run_is_one r
