use Rattle.ghs_node.proofs.Whole.{table_is_whole}
use Rattle.ghs_node.proofs.laws.law_table_is_whole.Goals as goal

pub returns : goal.returns
returns c = table_is_whole
