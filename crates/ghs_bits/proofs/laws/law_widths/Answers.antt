use Rattle.ghs_bits.proofs.Width.{widths_are_least}
use Rattle.ghs_bits.proofs.laws.law_widths.Goals as goal

pub returns : goal.returns
returns c = widths_are_least
