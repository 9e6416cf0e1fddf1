use Rattle.ghs_pool.proofs.Publishing.{rises, told_next, told_again}
use Rattle.ghs_pool.proofs.shop.Shop.make.Goals as goal

pub publish-requires-clause-rising : goal.publish-requires-clause-rising
publish-requires-clause-rising c =
    let before = c.pair_of.ensures in
    let now = c.pair_of-pair.ensures in
    rises _ _ _ _ _ c.in-Ok.ensures.made.graph c.in-Ok.ensures.made.trace before.graph before.run now.run c.self.invariant now.pair

pub invariant_of-self : goal.invariant_of-self
invariant_of-self c = told_next _ _ _ _ c.publish.ensures.list c.pair_of-pair.ensures.pair

pub invariant_of-self-in-Err : goal.invariant_of-self-in-Err
invariant_of-self-in-Err c = told_again _ _ c.self.inside.publisher c.in-Err.ensures.err c.self.invariant

pub returns-in-Ok-clause-published : goal.returns-in-Ok-clause-published
returns-in-Ok-clause-published c =
    let now = c.pair_of-pair in
    let told = c.publish.ensures in
    rw (← c.self.view_is) (record { pair = now.result; of_world = now.ensures.pair; table = told.table; list = told.list })
