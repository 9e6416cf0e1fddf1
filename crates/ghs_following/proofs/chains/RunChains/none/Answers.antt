use Rattle.ghs_following.proofs.lemmas.Following.{begun_are}
use Rattle.ghs_following.proofs.chains.RunChains.none.Goals as goal

pub returns : goal.returns
returns c = begun_are c.args.graph.now c.in_ok-chains.chains c.in_ok-chains.ensures.fits c.in_ok-chains.ensures.none
