use Rattle.std.proofs.Common.{◌<◌, ◌∙◌, ◌-◌, length, get_or, refl, ap, arith}
use Rattle.std.proofs.lemmas.List.{get_or_default}
use Rattle.ghs_core.specs.Kept.{no_node}
use Rattle.ghs_core.specs.Census.{level_in}
use Rattle.ghs_core.proofs.Counting.{counted_more}
use Rattle.ghs_core.proofs.census.count_classes.Goals as goal

pub loop-v-preserved : goal.loop-v-preserved
loop-v-preserved c =
    let v = c.loop-v.v in
    let within = c.requires.within v (omega arith) (omega (arith, c.requires.places)) in
    let lt : get_or c.args.roots.now v 0 < length c.args.roots.now = omega (arith, within, c.requires.places) in
    let node = c.index-nodes-v.is ∙ get_or_default c.args.nodes.now (v - 1) c.index-nodes-v.result no_node (omega (arith, c.requires.places)) in
    let level = c.get.ensures.value ∙ ap (λ h. h.level) c.head.ensures.head ∙ ap (λ n. n.head.level) node in
    rw (c.add.ensures, level)
    (counted_more c.args.roots.now (level_in c.args.nodes.now) v
    (get_or c.args.roots.now v 0) c.index_mut.result.now c.loop-v.rows.items (omega arith) refl lt c.index_mut.ensures.value c.loop-v.invariant)
