use Rattle.ghs_protocol.proofs.progress.Finish.{every_run_can_end}
use Rattle.ghs_protocol.proofs.interleavings.law_finish.Goals as goal

pub returns : goal.returns
returns c = every_run_can_end
