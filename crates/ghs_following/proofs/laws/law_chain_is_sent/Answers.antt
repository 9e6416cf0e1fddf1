use Rattle.ghs_following.proofs.lemmas.Bounding.{chains_are_sent}
use Rattle.ghs_following.proofs.laws.law_chain_is_sent.Goals as goal

pub returns : goal.returns
returns c = chains_are_sent
