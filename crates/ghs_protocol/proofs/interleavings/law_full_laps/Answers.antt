use Rattle.ghs_protocol.proofs.progress.Fairness.{full_laps_are_few}
use Rattle.ghs_protocol.proofs.interleavings.law_full_laps.Goals as goal

pub returns : goal.returns
returns c = full_laps_are_few
