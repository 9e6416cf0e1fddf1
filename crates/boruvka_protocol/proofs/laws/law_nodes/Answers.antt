use Rattle.boruvka_protocol.proofs.every_run.Nodes.{nodes_keep_ports}
use Rattle.boruvka_protocol.proofs.laws.law_nodes.Goals as goal

pub returns : goal.returns
returns c = nodes_keep_ports
