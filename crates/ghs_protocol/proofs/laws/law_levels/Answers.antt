use Rattle.ghs_protocol.proofs.every_run.Firsts.{levels_stay}
use Rattle.ghs_protocol.proofs.laws.law_levels.Goals as goal

pub returns : goal.returns
returns c = levels_stay
