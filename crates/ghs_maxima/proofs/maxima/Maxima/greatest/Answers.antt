use Rattle.std.proofs.Common.{◌<◌, slice_index, arith}
use Rattle.std.proofs.lemmas.Grind.{common_steps}
use Rattle.ghs_maxima.proofs.Tops.{zeros_without, zeros_below, greatest_leaf}
use Rattle.ghs_maxima.proofs.maxima.Maxima.greatest.Goals as goal
use Rattle.ghs_maxima.proofs.maxima.Maxima.greatest.Goals.{then-self-eq0-via-then-self-eq0, then-self-eq0-via-else-self-eq0+then-index-eq0}

pub returns-then-self-eq0 : goal.returns-then-self-eq0
returns-then-self-eq0 c =
    let kept = c.self.invariant in
    elim c.then-self-eq0.branch [
      | then-self-eq0-via-then-self-eq0 w ↦ rw (← c.self.view_is) (zeros_without kept (grind arith))
      | then-self-eq0-via-else-self-eq0+then-index-eq0 w ↦
          rw (← c.self.view_is) (zeros_below kept (grind arith) (grind (arith, common_steps)))
    ]

pub returns : goal.returns
returns c =
    let leaf = c.greatest_leaf.ensures in
    let same = rw c.deref.ensures.value at leaf.same in
    let some : 0 < slice_index c.self.inside.tree.items 1 = grind (arith, common_steps) in
    rw (← c.self.view_is) (greatest_leaf c.self.invariant c.greatest_leaf.result some leaf.order leaf.within same)
