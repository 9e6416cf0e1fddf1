use Rattle.ghs_node.proofs.Whole.{list_has_no_row}
use Rattle.ghs_node.proofs.laws.law_list_has_no_row.Goals as goal

pub returns : goal.returns
returns c = list_has_no_row
