use Rattle.ghs_bits.proofs.Bounding.{lengths_are_short}
use Rattle.ghs_bits.proofs.laws.law_lengths.Goals as goal

pub returns : goal.returns
returns c = lengths_are_short
