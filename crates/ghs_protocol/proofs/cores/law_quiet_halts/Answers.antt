use Rattle.ghs_protocol.proofs.one_core.Quiet.{quiet_halts}
use Rattle.ghs_protocol.proofs.cores.law_quiet_halts.Goals as goal

pub returns : goal.returns
returns c = quiet_halts
