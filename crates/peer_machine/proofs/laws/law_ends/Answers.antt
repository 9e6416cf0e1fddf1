use Rattle.peer_machine.proofs.lemmas.Ends.{events_few}
use Rattle.peer_machine.proofs.laws.law_ends.Goals as goal

pub returns : goal.returns
returns g c = λ r. events_few r
