use Rattle.std.proofs.Common.{arith}
use Rattle.ghs_flags.proofs.Bits.{first-none, first-some}
use Rattle.ghs_flags.proofs.word.first_bit.Goals as goal

pub returns-then-rest-eq0 : goal.returns-then-rest-eq0
returns-then-rest-eq0 c = first-none c.args.word c.args.bit c.if-rest-eq0.true

pub returns-else-rest-eq0 : goal.returns-else-rest-eq0
returns-else-rest-eq0 c = first-some c.args.word c.args.bit c.ranges.word.fits (omega arith)
