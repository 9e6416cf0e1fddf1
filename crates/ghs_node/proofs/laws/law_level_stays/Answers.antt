use Rattle.ghs_node.proofs.Kept.{row_level}
use Rattle.ghs_node.proofs.laws.law_level_stays.Goals as goal

pub returns : goal.returns
returns c = row_level
