use Rattle.ghs_protocol.proofs.progress.Rounds.{fair_runs_end}
use Rattle.ghs_protocol.proofs.interleavings.law_rounds.Goals as goal

pub returns : goal.returns
returns c = fair_runs_end
