use Rattle.peer_machine.proofs.lemmas.Ends.{deferred_last}
use Rattle.peer_machine.proofs.laws.law_deferred.Goals as goal

pub returns : goal.returns
returns g c = λ r. deferred_last r
