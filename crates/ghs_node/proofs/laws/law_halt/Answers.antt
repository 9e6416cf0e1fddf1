use Rattle.ghs_node.proofs.Kept.{row_halts}
use Rattle.ghs_node.proofs.laws.law_halt.Goals as goal

pub returns : goal.returns
returns c = row_halts
