use Rattle.ghs_node.proofs.Kept.{row_awake}
use Rattle.ghs_node.proofs.laws.law_awake.Goals as goal

pub returns : goal.returns
returns c = row_awake
