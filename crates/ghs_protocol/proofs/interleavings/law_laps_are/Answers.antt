use Rattle.ghs_protocol.proofs.progress.Laps.{laps_are}
use Rattle.ghs_protocol.proofs.interleavings.law_laps_are.Goals as goal

pub returns : goal.returns
returns c = laps_are
