use Rattle.std.proofs.Common.{◌≡◌, ◌∙◌, arith}
use Rattle.ghs_graph.proofs.Climbing.{length-roots_of, roots_fresh}
use Rattle.ghs_graph.proofs.union_find.Roots.fresh.Goals as goal

pub returns-clause-count : goal.returns-clause-count
returns-clause-count c =
    let x : c.loop-x.x ≡ c.args.count = omega arith in
    length-roots_of c.loop-x.up.items ∙ c.loop-x.invariant.count ∙ x

pub returns-clause-alone : goal.returns-clause-alone
returns-clause-alone c =
    roots_fresh c.loop-x.up.items (λ v lt. let e = c.loop-x.invariant.count in c.loop-x.invariant.alone v (omega (arith, lt, e)))
