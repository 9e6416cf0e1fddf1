use Rattle.ghs_pool.proofs.Publishing.{rises, told_next, told_again}
use Rattle.ghs_pool.proofs.desk.ShopDesk.commit.Goals as goal

pub publish-requires-clause-rising : goal.publish-requires-clause-rising
publish-requires-clause-rising c =
    let before = c.pair_of.ensures in
    let now = c.pair_of-pair.ensures in
    rises _ _ _ _ _ c.in-Ok.ensures.commits.graph c.in-Ok.ensures.commits.trace before.graph before.run now.run c.self.invariant now.pair

pub invariant_of-self : goal.invariant_of-self
invariant_of-self c = told_next _ _ _ _ c.publish.ensures.list c.pair_of-pair.ensures.pair

pub invariant_of-self-in-Err : goal.invariant_of-self-in-Err
invariant_of-self-in-Err c = told_again _ _ c.self.inside.publisher c.in-Err.ensures.err c.self.invariant

pub returns-in-Err-clause-fault : goal.returns-in-Err-clause-fault
returns-in-Err-clause-fault c = rw (← c.self.view_is) c.in-Err.ensures.fault

pub returns-in-Ok-clause-published : goal.returns-in-Ok-clause-published
returns-in-Ok-clause-published c =
    let now = c.pair_of-pair in
    let told = c.publish.ensures in
    rw (← c.self.view_is) (record { pair = now.result; of_world = now.ensures.pair; table = told.table; list = told.list })

pub returns-in-Ok-clause-ok : goal.returns-in-Ok-clause-ok
returns-in-Ok-clause-ok c = rw (← c.self.view_is) c.in-Ok.ensures.ok

pub returns-in-Ok-clause-commits : goal.returns-in-Ok-clause-commits
returns-in-Ok-clause-commits c = rw (← c.self.view_is) c.in-Ok.ensures.commits

pub returns-in-Ok-clause-others : goal.returns-in-Ok-clause-others
returns-in-Ok-clause-others c = rw (← c.self.view_is) c.in-Ok.ensures.others

pub returns-in-Ok-clause-woken : goal.returns-in-Ok-clause-woken
returns-in-Ok-clause-woken c = rw (← c.self.view_is) c.in-Ok.ensures.woken

pub returns-in-Ok-clause-roused : goal.returns-in-Ok-clause-roused
returns-in-Ok-clause-roused c = rw (← c.self.view_is) c.in-Ok.ensures.roused

pub returns-in-Err-clause-err : goal.returns-in-Err-clause-err
returns-in-Err-clause-err c = rw (← c.self.view_is) c.in-Err.ensures.err
