use Rattle.peer_machine.proofs.lemmas.Others.{queue_appends}
use Rattle.peer_machine.proofs.laws.law_queues.Goals as goal

pub returns : goal.returns
returns g c = λ r n w w' e h. queue_appends r n w w' e h
