use Rattle.ghs_protocol.proofs.progress.Schedules.{patient_runs_are_short}
use Rattle.ghs_protocol.proofs.interleavings.law_patience.Goals as goal

pub returns : goal.returns
returns c = patient_runs_are_short
