use Rattle.gather_protocol.proofs.Bound.{sends_within_bound}
use Rattle.gather_protocol.proofs.laws.law_sends.Goals as goal

pub returns : goal.returns
returns c = sends_within_bound
