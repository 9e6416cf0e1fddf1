use Rattle.std.proofs.Common.{◌*◌, ◌∙◌, arith}
use Rattle.ghs_flags.proofs.lemmas.Raised.{kth_from, none_from}
use Rattle.ghs_flags.proofs.flags.Flags.first_from_block.Goals as goal

pub returns-then-before-count : goal.returns-then-before-count
returns-then-before-count c =
    λ j lo hi.
    rw (← c.self.view_is)
    (none_from c.self.inside.row (c.args.block * 512)
    (let before = c.self.invariant.counted.fronts c.args.block in let same = rw (← c.self.view_is) at c.count.ensures in omega arith) j lo)

pub returns-then-found-end : goal.returns-then-found-end
returns-then-found-end c =
    let before = c.sum_before-before.ensures ∙ c.self.invariant.counted.fronts c.args.block in
    let kth = rw (← c.self.view_is, before) at c.kth-found.ensures.kth in
    let from = kth_from c.self.inside.row (c.args.block * 512) c.kth-found.result kth in
    rw (← c.self.view_is) (from.0, c.if-found-end.true, kth.raised, from.1)

pub returns-else-found-end : goal.returns-else-found-end
returns-else-found-end c =
    let before = c.sum_before-before.ensures ∙ c.self.invariant.counted.fronts c.args.block in
    let kth = rw (← c.self.view_is, before) at c.kth-found.ensures.kth in
    let from = kth_from c.self.inside.row (c.args.block * 512) c.kth-found.result kth in
    λ j lo hi. rw (← c.self.view_is) (from.1 j lo (omega arith))
