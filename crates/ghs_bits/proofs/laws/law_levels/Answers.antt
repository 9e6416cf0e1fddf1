use Rattle.ghs_bits.proofs.Width.{levels_are_floors}
use Rattle.ghs_bits.proofs.laws.law_levels.Goals as goal

pub returns : goal.returns
returns c = levels_are_floors
