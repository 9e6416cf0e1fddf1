use Rattle.ghs_bits.proofs.Width.{greatest_next}
use Rattle.ghs_bits.proofs.widths.greatest_weight.Goals as goal

pub loop-key-preserved : goal.loop-key-preserved
loop-key-preserved c =
    greatest_next c.args.keys.now c.loop-key.key-index _ c.loop-key.greatest c.max-greatest.result c.loop-key-test.true c.loop-key.invariant
    c.max-greatest.ensures
