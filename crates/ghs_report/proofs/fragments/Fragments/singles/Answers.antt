use Rattle.std.proofs.Common.{arith}
use Rattle.ghs_report.proofs.Singles.{merged_none}
use Rattle.ghs_report.proofs.fragments.Fragments.singles.Goals as goal

pub returns-clause-merged : goal.returns-clause-merged
returns-clause-merged c ks =
    let i = c.loop-v.invariant in
    let p = i.parents in
    let l = i.levels in
    let n = i.cores in
    merged_none ks c.loop-v.parents.items c.loop-v.levels.items c.loop-v.cores.items (omega (arith, p, l)) (omega (arith, p, n))
    (λ v lt. i.alone v (omega (arith, lt, p))) (λ v lt. i.low v (omega (arith, lt, p))) (λ v lt. i.none v (omega (arith, lt, p)))
