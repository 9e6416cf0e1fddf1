use Rattle.std.proofs.Common.{refl}
use Rattle.ghs_pool.proofs.Publishing.{follows_same}
use Rattle.ghs_pool.proofs.workers.run_workers.Goals as goal

pub returns-in_default-clause-follows : goal.returns-in_default-clause-follows
returns-in_default-clause-follows g c = rw c.recall_all.ensures (follows_same _ _ refl refl refl refl)
