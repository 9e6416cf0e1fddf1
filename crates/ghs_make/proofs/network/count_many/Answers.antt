use Rattle.std.proofs.Common.{sym, arith}
use Rattle.ghs_make.proofs.Counts.{count_more, count_none}
use Rattle.ghs_make.proofs.network.count_many.Goals as goal

pub loop-before-init : goal.loop-before-init
loop-before-init c = (sym (count_none c.args.plan.now), omega arith)

pub overflow_add-links : goal.overflow_add-links
overflow_add-links c =
    let most = c.loop-before.invariant.1 in
    let few = c.requires.plan.few in
    let long = c.ends_among.type_inv in
    let same = c.from-links.ensures in
    let left = c.loop-before-test.true in
    omega (arith, most, few, long, same, left)

pub loop-before-preserved : goal.loop-before-preserved
loop-before-preserved c =
    let counted = c.loop-before.invariant.0 in
    let most = c.loop-before.invariant.1 in
    let more = count_more c.args.plan.now c.loop-before.before in
    let same = c.from-links.ensures in
    let ends = c.ends_among.ensures.count in
    let few = c.requires.plan.few in
    let long = c.ends_among.ensures.few in
    (omega (arith, counted, more, same, ends), omega (arith, most, same, few, long))
