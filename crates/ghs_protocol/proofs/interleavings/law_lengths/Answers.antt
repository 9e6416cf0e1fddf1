use Rattle.ghs_protocol.proofs.progress.Finish.{runs_are_short}
use Rattle.ghs_protocol.proofs.interleavings.law_lengths.Goals as goal

pub returns : goal.returns
returns c = runs_are_short
