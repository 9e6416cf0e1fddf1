use Rattle.ghs_protocol.proofs.progress.Runs.{no_run_is_stuck}
use Rattle.ghs_protocol.proofs.interleavings.law_progress.Goals as goal

pub returns : goal.returns
returns c = no_run_is_stuck
