use Rattle.ghs_node.proofs.MarkChanges.{row_marks, branch_stays}
use Rattle.ghs_node.proofs.laws.law_branch_stays.Goals as goal

pub returns : goal.returns
returns c = λ n w d f r p h. branch_stays n d.mark p (row_marks n w d f r) h
