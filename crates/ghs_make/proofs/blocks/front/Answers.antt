use Rattle.std.proofs.Common.{arith}
use Rattle.ghs_make.proofs.Powers.{half_within, levels_few, quarter_within}
use Rattle.ghs_make.proofs.blocks.front.Goals as goal

pub power-requires : goal.power-requires
power-requires c = let few = levels_few c.args.plan.now c.requires in omega arith

pub overflow_sub-result : goal.overflow_sub-result
overflow_sub-result c =
    let half = half_within c.args.plan.now c.requires in
    let is = rw c.saturating_sub.ensures at c.power.ensures in
    omega (arith, half, is)

pub power-requires-in_default : goal.power-requires-in_default
power-requires-in_default c = let few = levels_few c.args.plan.now c.requires in omega arith

pub returns-in-Slow-clause-some : goal.returns-in-Slow-clause-some
returns-in-Slow-clause-some c =
    let half = half_within c.args.plan.now c.requires in
    let is = rw c.saturating_sub.ensures at c.power.ensures in
    omega (arith, half, is)

pub power-requires-in-FarCore : goal.power-requires-in-FarCore
power-requires-in-FarCore c = let few = levels_few c.args.plan.now c.requires in omega arith

pub overflow_sub-result-in-FarCore : goal.overflow_sub-result-in-FarCore
overflow_sub-result-in-FarCore c =
    let quarter = quarter_within c.args.plan.now c.requires in
    let is = rw c.saturating_sub-in-FarCore.ensures at c.power-in-FarCore.ensures in
    omega (arith, quarter, is)

pub returns-in-FarCore-clause-some : goal.returns-in-FarCore-clause-some
returns-in-FarCore-clause-some c =
    let quarter = quarter_within c.args.plan.now c.requires in
    let is = rw c.saturating_sub-in-FarCore.ensures at c.power-in-FarCore.ensures in
    omega (arith, quarter, is)
