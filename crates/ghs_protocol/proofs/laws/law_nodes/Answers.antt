use Rattle.ghs_protocol.proofs.every_run.Firsts.{nodes_are_nodes}
use Rattle.ghs_protocol.proofs.laws.law_nodes.Goals as goal

pub returns : goal.returns
returns c = nodes_are_nodes
