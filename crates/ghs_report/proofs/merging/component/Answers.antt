use Rattle.std.proofs.Common.{◌∙◌, None, arith}
use Rattle.std.proofs.lemmas.Grind.{get_or_default_zero}
use Rattle.std.proofs.lemmas.List.{get_or_default}
use Rattle.ghs_report.proofs.Whole.{merges_to}
use Rattle.ghs_report.proofs.merging.component.Goals as goal

pub returns-clause-core : goal.returns-clause-core
returns-clause-core c g s =
    let i = c.leader-leader.ensures.inside in
    let p = s.trees.places in
    let q = s.places in
    merges_to g c.args.fragments.now.parents.items c.args.fragments.now.levels.items c.args.fragments.now.cores.items c.args.root
    c.leader-leader.result c.index.result.now c.index-2.result.now s c.leader-leader.ensures
    (c.index.ensures ∙ get_or_default_zero c.args.fragments.now.levels.items c.leader-leader.result c.index.result.now (omega (arith, i, p)))
    (c.index-2.ensures ∙
    get_or_default c.args.fragments.now.cores.items c.leader-leader.result c.index-2.result.now None (omega (arith, i, q)))
