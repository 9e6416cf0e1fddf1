use Rattle.ghs_parts.proofs.AddingUp.{nodes_add_up}
use Rattle.ghs_parts.proofs.laws.law_nodes.Goals as goal

pub returns : goal.returns
returns c = nodes_add_up
