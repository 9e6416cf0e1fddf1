use Rattle.peer_lengths.proofs.Numbering.{chains_are_sent}
use Rattle.peer_lengths.proofs.laws.law_chain.Goals as goal

pub returns : goal.returns
returns g c = λ r. chains_are_sent r
