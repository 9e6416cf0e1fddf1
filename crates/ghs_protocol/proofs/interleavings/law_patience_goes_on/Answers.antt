use Rattle.ghs_protocol.proofs.progress.Schedules.{patience_goes_on}
use Rattle.ghs_protocol.proofs.interleavings.law_patience_goes_on.Goals as goal

pub returns : goal.returns
returns c = patience_goes_on
