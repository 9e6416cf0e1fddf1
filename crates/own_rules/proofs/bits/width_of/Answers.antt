use Rattle.own_rules.proofs.Valued.{log2_width}
use Rattle.own_rules.proofs.bits.width_of.Goals as goal

pub returns-else-n-eq0 : goal.returns-else-n-eq0
returns-else-n-eq0 c =
    log2_width c.args.n c.ilog2.result _ c.ilog2.ensures.power_le c.ilog2.ensures.next_power_gt (c.law_widths.ensures c.args.n)
