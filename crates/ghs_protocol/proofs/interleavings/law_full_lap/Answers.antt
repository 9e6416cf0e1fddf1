use Rattle.ghs_protocol.proofs.progress.Fairness.{full_lap_gets_on}
use Rattle.ghs_protocol.proofs.interleavings.law_full_lap.Goals as goal

pub returns : goal.returns
returns c = full_lap_gets_on
