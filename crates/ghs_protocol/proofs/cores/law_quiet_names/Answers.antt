use Rattle.ghs_protocol.proofs.one_core.Quiet.{quiet_names}
use Rattle.ghs_protocol.proofs.cores.law_quiet_names.Goals as goal

pub returns : goal.returns
returns c = quiet_names
