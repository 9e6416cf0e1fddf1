use Rattle.gather_protocol.proofs.Awake.{runs_are_short}
use Rattle.gather_protocol.proofs.laws.law_short_runs.Goals as goal

pub returns : goal.returns
returns c = runs_are_short
