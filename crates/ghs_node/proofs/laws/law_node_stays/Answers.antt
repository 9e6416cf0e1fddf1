use Rattle.ghs_node.proofs.Kept.{row_kept}
use Rattle.ghs_node.proofs.laws.law_node_stays.Goals as goal

pub returns : goal.returns
returns c = row_kept
