use Rattle.ghs_following.proofs.lemmas.Moved.{moved}
use Rattle.ghs_following.proofs.walk.put_back.Goals as goal

pub returns-clause-kept : goal.returns-clause-kept
returns-clause-kept g c =
    moved g.F.Follower.is_of _ _ _ _ _ c.in_ok-put_back.ensures.graph c.in_ok-put_back.ensures.trace c.in_ok-follow_back.ensures
