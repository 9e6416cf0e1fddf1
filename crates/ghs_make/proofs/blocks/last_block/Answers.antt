use Rattle.std.proofs.Common.{arith}
use Rattle.ghs_make.proofs.Powers.{half_within, levels_few}
use Rattle.ghs_make.proofs.blocks.last_block.Goals as goal

pub power-requires : goal.power-requires
power-requires c = let few = levels_few c.args.plan.now c.requires in omega arith

pub returns-clause-few : goal.returns-clause-few
returns-clause-few c =
    let half = half_within c.args.plan.now c.requires in
    let is = rw c.saturating_sub.ensures at c.power.ensures in
    omega (arith, half, is)
