use Rattle.gather_protocol.proofs.Rules.{nodes_keep_ports}
use Rattle.gather_protocol.proofs.laws.law_nodes.Goals as goal

pub returns : goal.returns
returns c = nodes_keep_ports
