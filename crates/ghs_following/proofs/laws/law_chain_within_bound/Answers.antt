use Rattle.ghs_following.proofs.lemmas.Bounding.{chains_within_bound}
use Rattle.ghs_following.proofs.laws.law_chain_within_bound.Goals as goal

pub returns : goal.returns
returns c = chains_within_bound
