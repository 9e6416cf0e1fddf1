use Rattle.ghs_protocol.proofs.progress.SingleRounds.{single_rounds_end}
use Rattle.ghs_protocol.proofs.interleavings.law_single_rounds.Goals as goal

pub returns : goal.returns
returns c = single_rounds_end
