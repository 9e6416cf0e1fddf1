use Rattle.std.proofs.Common.{refl}
use Rattle.ghs_bits.proofs.Bounding.{none_are}
use Rattle.ghs_bits.proofs.bits.Bits.none.Goals as goal

pub returns : goal.returns
returns c = none_are c.args.graph.now (record { widths = c.of.result; sent = 0; longest = 0 }) c.of.ensures refl refl
