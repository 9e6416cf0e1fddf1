use Rattle.std.proofs.Common.{◌≡◌, ◌-◌, ◌≤◌, ◌+◌, ap, ◌∙◌, append_assoc, arith}
use Rattle.ghs_make.proofs.Picking.{parts_fit}
use Rattle.ghs_make.proofs.picks.put_picked_ends.Goals as goal

pub pick-requires : goal.pick-requires
pick-requires c =
    let fit = parts_fit c.args.plan.now c.requires.plan c.args.node c.requires.low in
    let few = c.requires.plan.few in
    record {
      here = omega arith;
      each = omega (arith, fit, c.links_among-first.ensures.links, c.links_among.ensures.links, c.saturating_sub-parts.ensures, c.from.ensures);
      few = omega (arith, few, c.from.ensures);
      counted = c.links_among-first.ensures.few;
    }
