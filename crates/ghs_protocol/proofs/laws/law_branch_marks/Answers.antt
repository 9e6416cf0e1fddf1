use Rattle.ghs_protocol.proofs.every_run.Firsts.{branch_marks_stay}
use Rattle.ghs_protocol.proofs.laws.law_branch_marks.Goals as goal

pub returns : goal.returns
returns c = branch_marks_stay
