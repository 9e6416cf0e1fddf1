use Rattle.ghs_pool.proofs.desk.ShopDesk.ended.Goals as goal

pub returns : goal.returns
returns c = rw (← c.self.view_is) c.ended.ensures.ended
