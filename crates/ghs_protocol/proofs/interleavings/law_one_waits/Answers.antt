use Rattle.ghs_protocol.proofs.progress.Runs.{one_waits}
use Rattle.ghs_protocol.proofs.interleavings.law_one_waits.Goals as goal

pub returns : goal.returns
returns c = one_waits
