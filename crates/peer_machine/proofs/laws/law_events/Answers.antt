use Rattle.peer_machine.proofs.lemmas.Events.{happening, happens_so}
use Rattle.peer_machine.proofs.laws.law_events.Goals as goal

pub returns : goal.returns
returns g c = λ r n w w' e. (happening r n w w' e, happens_so r n)
