use Rattle.peer_parts.proofs.AddingUp.{nodes_add_up}
use Rattle.peer_parts.proofs.laws.law_nodes.Goals as goal

pub returns : goal.returns
returns g c = λ r words. nodes_add_up r words
