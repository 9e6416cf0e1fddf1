use Rattle.ghs_following.proofs.Swapping.{swaps_are_alike}
use Rattle.ghs_following.proofs.laws.law_swap.Goals as goal

pub returns : goal.returns
returns c = swaps_are_alike
