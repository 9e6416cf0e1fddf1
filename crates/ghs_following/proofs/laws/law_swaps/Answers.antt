use Rattle.ghs_following.proofs.Swapping.{orders_are_alike}
use Rattle.ghs_following.proofs.laws.law_swaps.Goals as goal

pub returns : goal.returns
returns c = orders_are_alike
