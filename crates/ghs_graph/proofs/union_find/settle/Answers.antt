use Rattle.std.proofs.Common.{◌<◌, ◌≤◌, length, arith}
use Rattle.ghs_graph.proofs.Climbing.{settled_more, settled_all}
use Rattle.ghs_graph.proofs.union_find.settle.Goals as goal

pub loop-x-preserved : goal.loop-x-preserved
loop-x-preserved c =
    let lt : c.loop-x.x < length c.args.up.now.items = omega arith in
    settled_more c.args.up.now.items c.loop-x.up.items c.loop-x.x c.index.result.now c.index-in-loop-x.result.now c.requires lt c.loop-x.invariant
    c.index.ensures c.index-in-loop-x.ensures

pub returns : goal.returns
returns c =
    let le : length c.args.up.now.items ≤ c.loop-x.x = omega arith in
    settled_all c.args.up.now.items c.loop-x.up.items c.loop-x.x le c.loop-x.invariant
