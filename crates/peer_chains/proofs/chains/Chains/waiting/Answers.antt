use Rattle.peer_chains.specs.Kept.{seen}
use Rattle.peer_chains.proofs.chains.Chains.waiting.Goals as goal

pub returns : goal.returns
unfolding seen
returns c = rw (← c.self.view_is) c.get.ensures
