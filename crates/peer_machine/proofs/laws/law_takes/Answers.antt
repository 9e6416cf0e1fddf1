use Rattle.peer_machine.proofs.lemmas.Counts.{after_counts}
use Rattle.peer_machine.proofs.laws.law_takes.Goals as goal

pub returns : goal.returns
returns g c = λ r kinds n es w h. after_counts r n kinds es w h
