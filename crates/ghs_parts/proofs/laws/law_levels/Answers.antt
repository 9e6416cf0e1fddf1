use Rattle.ghs_parts.proofs.AddingUp.{levels_add_up}
use Rattle.ghs_parts.proofs.laws.law_levels.Goals as goal

pub returns : goal.returns
returns c = levels_add_up
