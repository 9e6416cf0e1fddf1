use Rattle.ghs_sweep.proofs.Fixed.{fixed_measures_agree}
use Rattle.ghs_sweep.proofs.laws.law_fixed_measures.Goals as goal

pub returns : goal.returns
returns c = fixed_measures_agree
