use Rattle.ghs_protocol.proofs.one_core.Quiet.{quiet_branches}
use Rattle.ghs_protocol.proofs.cores.law_quiet_branches.Goals as goal

pub returns : goal.returns
returns c = quiet_branches
