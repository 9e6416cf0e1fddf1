use Rattle.ghs_pool.proofs.Publishing.{told_by, not_commits, not_halted}
use Rattle.ghs_pool.proofs.shop.Shop.open.Goals as goal

pub invariant_of-result : goal.invariant_of-result
invariant_of-result c = told_by _ _ _ _ c.last-last.ensures c.if-last-commits.true c.if-last-halted.true c.pair_of-commits.ensures.pair

pub returns-then-last-halted-clause-told : goal.returns-then-last-halted-clause-told
returns-then-last-halted-clause-told c =
    told_by _ _ _ _ c.last-last.ensures c.if-last-commits.true c.if-last-halted.true c.pair_of-commits.ensures.pair

pub returns-clause-untold : goal.returns-clause-untold
returns-clause-untold c = not_commits _ _ _ _ c.last-last.ensures c.if-last-commits.false c.pair_of-commits.ensures.pair

pub returns-then-last-commits-clause-untold : goal.returns-then-last-commits-clause-untold
returns-then-last-commits-clause-untold c = not_halted _ _ _ _ c.last-last.ensures c.if-last-halted.false c.pair_of-commits.ensures.pair
