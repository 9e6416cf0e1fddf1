use Rattle.ghs_node.proofs.Outgoing.{row_leveled}
use Rattle.ghs_node.proofs.laws.law_send_levels.Goals as goal

pub returns : goal.returns
returns c = row_leveled
