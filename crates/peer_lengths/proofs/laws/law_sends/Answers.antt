use Rattle.peer_lengths.proofs.lemmas.Sending.{all_counted}
use Rattle.peer_lengths.proofs.laws.law_sends.Goals as goal

pub returns : goal.returns
returns g c = λ r kinds n es w after. all_counted r n kinds es w after
