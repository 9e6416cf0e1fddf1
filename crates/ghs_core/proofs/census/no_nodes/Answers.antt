use Rattle.std.proofs.Common.{◌≡◌, length, arith}
use Rattle.ghs_core.proofs.Counting.{blank_counted}
use Rattle.ghs_core.proofs.census.no_nodes.Goals as goal

pub returns : goal.returns
returns c =
    let last : c.loop-least.least ≡ length c.args.roots.now = omega arith in
    blank_counted c.args.roots.now c.loop-least.least c.loop-least.rows.items last c.loop-least.invariant
