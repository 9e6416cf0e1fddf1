use Rattle.gather_protocol.proofs.Bound.{sends_within}
use Rattle.gather_protocol.proofs.laws.law_wakers.Goals as goal

pub returns : goal.returns
returns c = sends_within
