use Rattle.ghs_bits.proofs.Bounding.{bits_are_within_bound}
use Rattle.ghs_bits.proofs.laws.law_bits_within_bound.Goals as goal

pub returns : goal.returns
returns c = bits_are_within_bound
