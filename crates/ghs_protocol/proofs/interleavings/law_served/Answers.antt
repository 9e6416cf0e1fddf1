use Rattle.ghs_protocol.proofs.progress.Fairness.{served_runs_are_short}
use Rattle.ghs_protocol.proofs.interleavings.law_served.Goals as goal

pub returns : goal.returns
returns c = served_runs_are_short
