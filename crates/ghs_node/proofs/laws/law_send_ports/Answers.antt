use Rattle.ghs_node.proofs.Outgoing.{row_ported}
use Rattle.ghs_node.proofs.laws.law_send_ports.Goals as goal

pub returns : goal.returns
returns c = row_ported
