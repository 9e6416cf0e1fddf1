use Rattle.ghs_graph.proofs.Climbing.{climb_more, climb_end}
use Rattle.ghs_graph.proofs.union_find.climb.Goals as goal

pub loop-above-preserved : goal.loop-above-preserved
loop-above-preserved c =
    climb_more c.args.up.now.items c.loop-above.up.items c.args.x c.loop-above.at c.loop-above.above c.loop-above.invariant c.index-next.result.now
    c.index-next.ensures c.index-above-in-loop-above.result.now c.loop-above-test.true c.index-above-in-loop-above.ensures

pub returns-clause-root : goal.returns-clause-root
returns-clause-root c =
    climb_end c.args.up.now.items c.loop-above.up.items c.args.x c.loop-above.at c.loop-above.above c.loop-above.invariant c.loop-above-test.false
