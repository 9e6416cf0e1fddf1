use Rattle.std.proofs.Common.{ap, sym, arith, length, ◌-◌, ◌∙◌}
use Rattle.ghs_make.proofs.Few.{far_ends_of, one_and_run_long, only_wake, wake_ends_of}
use Rattle.ghs_make.proofs.network.ends_among.Goals as goal

pub returns-in-FarCore-clause-count : goal.returns-in-FarCore-clause-count
returns-in-FarCore-clause-count c = c.far_count.ensures.count ∙ sym (ap length (far_ends_of c.args.plan.now c.in-FarCore.is c.args.node))

pub returns-in_default : goal.returns-in_default
returns-in_default c =
    let is = only_wake _ c.requires.many c.in_default.not-FarCore in
    let same = ap length (wake_ends_of c.args.plan.now is c.args.node) in
    let long = one_and_run_long 1 3 (c.args.node - 3) in
    let left = c.saturating_sub.ensures in
    let high = c.requires.high in
    record { count = omega (arith, same, long, left); few = omega (arith, left, high) }
