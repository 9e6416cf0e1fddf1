use Rattle.ghs_protocol.proofs.progress.Schedules.{patience_lasts}
use Rattle.ghs_protocol.proofs.interleavings.law_patience_lasts.Goals as goal

pub returns : goal.returns
returns c = patience_lasts
