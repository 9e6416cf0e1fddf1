use Rattle.ghs_following.proofs.lemmas.Carrying.{longest_are}
use Rattle.ghs_following.proofs.chains.RunChains.longest.Goals as goal

pub returns : goal.returns
returns c = λ g es are. longest_are g es c.self.inside.chains _ (rw (← c.self.view_is) at are) c.longest.ensures
