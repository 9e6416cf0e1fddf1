use Rattle.ghs_node.proofs.MarkChanges.{row_marks}
use Rattle.ghs_node.proofs.laws.law_marks.Goals as goal

pub returns : goal.returns
returns c = row_marks
