use Rattle.ghs_node.proofs.Whole.{row_is_one}
use Rattle.ghs_node.proofs.laws.law_row_is_one.Goals as goal

pub returns : goal.returns
returns c = row_is_one
