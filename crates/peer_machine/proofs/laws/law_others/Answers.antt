use Rattle.peer_machine.proofs.lemmas.Others.{node_stays}
use Rattle.peer_machine.proofs.laws.law_others.Goals as goal

pub returns : goal.returns
returns g c = λ r n w w' e h. node_stays r n w w' e h
