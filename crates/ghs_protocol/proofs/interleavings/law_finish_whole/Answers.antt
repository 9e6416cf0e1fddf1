use Rattle.ghs_protocol.proofs.progress.Schedules.{every_run_can_end_whole}
use Rattle.ghs_protocol.proofs.interleavings.law_finish_whole.Goals as goal

pub returns : goal.returns
returns c = every_run_can_end_whole
