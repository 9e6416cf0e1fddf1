use Rattle.ghs_protocol.proofs.progress.Fairness.{two_laps_get_on}
use Rattle.ghs_protocol.proofs.interleavings.law_two_laps.Goals as goal

pub returns : goal.returns
returns c = two_laps_get_on
