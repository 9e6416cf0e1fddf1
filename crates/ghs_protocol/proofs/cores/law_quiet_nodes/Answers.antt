use Rattle.ghs_protocol.proofs.one_core.Quiet.{quiet_nodes}
use Rattle.ghs_protocol.proofs.cores.law_quiet_nodes.Goals as goal

pub returns : goal.returns
returns c = quiet_nodes
