use Rattle.ghs_protocol.proofs.progress.Fairness.{laps_are_few}
use Rattle.ghs_protocol.proofs.interleavings.law_laps.Goals as goal

pub returns : goal.returns
returns c = laps_are_few
