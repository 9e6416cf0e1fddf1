use Rattle.std.proofs.Common.{◌≡◌, ◌+◌, drop, length, ap, ◌∙◌, arith}
use Rattle.std.specs.Vec.{with_item}
use Rattle.std.proofs.lemmas.List.{drop-set-add, with_items_is}
use Rattle.ghs_maxima.proofs.maxima.Maxima.set.Goals as goal

pub returns : goal.returns
returns c =
    let row = rw (c.deref_mut.ensures.value, drop-set-add) at c.mend_above.ensures.row in
    let all : length c.mend_above.new.tree ≡ c.self.inside.tree.len = omega arith in
    let written = with_items_is (with_item c.self.inside.tree (c.self.inside.len + c.args.at) c.args.number) c.mend_above.new.tree all in
    rw (← c.self.view_is) (ap (drop c.self.inside.len) written ∙ row)
