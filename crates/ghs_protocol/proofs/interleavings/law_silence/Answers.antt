use Rattle.ghs_protocol.proofs.progress.Runs.{silence_is_end}
use Rattle.ghs_protocol.proofs.interleavings.law_silence.Goals as goal

pub returns : goal.returns
returns c = silence_is_end
