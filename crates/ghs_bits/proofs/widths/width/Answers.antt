use Rattle.ghs_bits.proofs.Width.{log2_width, zero_width}
use Rattle.ghs_bits.proofs.widths.width.Goals as goal

pub returns-then-n-eq0 : goal.returns-then-n-eq0
returns-then-n-eq0 c = zero_width c.args.n c.if-n-eq0.true

pub returns-else-n-eq0 : goal.returns-else-n-eq0
returns-else-n-eq0 c = log2_width c.args.n c.floor_log2.result c.floor_log2.ensures
