use Rattle.peer_network.proofs.Firsts.{first_are_roots}
use Rattle.peer_network.proofs.laws.law_first.Goals as goal

pub returns : goal.returns
returns c = first_are_roots
