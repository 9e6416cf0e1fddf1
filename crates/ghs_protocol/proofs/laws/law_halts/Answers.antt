use Rattle.ghs_protocol.proofs.every_run.Firsts.{halts_stay}
use Rattle.ghs_protocol.proofs.laws.law_halts.Goals as goal

pub returns : goal.returns
returns c = halts_stay
