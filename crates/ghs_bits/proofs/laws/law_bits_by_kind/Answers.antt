use Rattle.ghs_bits.proofs.Bounding.{bits_are_by_kind}
use Rattle.ghs_bits.proofs.laws.law_bits_by_kind.Goals as goal

pub returns : goal.returns
returns c = bits_are_by_kind
