use Rattle.ghs_sched.proofs.Picking.{seeded_run_is_one}
use Rattle.ghs_sched.proofs.laws.law_seeded_run.Goals as goal

pub returns : goal.returns
returns c = seeded_run_is_one
