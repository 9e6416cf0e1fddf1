use Rattle.ghs_patient.specs.Keeping.{Begun}
use Rattle.ghs_patient.proofs.keeping.run_by.Goals as goal

pub returns-then-ended-clause-gone : goal.returns-then-ended-clause-gone
returns-then-ended-clause-gone g c = rw c.recall_all.ensures Begun

pub returns-in-Err-clause-gone : goal.returns-in-Err-clause-gone
returns-in-Err-clause-gone g c = rw c.recall_all.ensures Begun
