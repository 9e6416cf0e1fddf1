use Rattle.ghs_pool.proofs.Publishing.{goes_after}
use Rattle.ghs_pool.proofs.floor.Floor.commit.Goals as goal

pub returns : goal.returns
returns g c =
    let e = c.commit.ensures in
    rw (← c.self.view_is) (goes_after c.commit.result _ _ _ _ e.commits e.published e.err e.unpublished)
