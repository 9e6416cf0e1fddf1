use Rattle.peer_machine.proofs.lemmas.Ends.{taken_once}
use Rattle.peer_machine.proofs.laws.law_taken_once.Goals as goal

pub returns : goal.returns
returns g c = λ r. taken_once r
