use Rattle.ghs_pool.proofs.desk.ShopDesk.give_back.Goals as goal

pub returns-clause-fault : goal.returns-clause-fault
returns-clause-fault c = rw (← c.self.view_is) c.give_back.ensures.fault
