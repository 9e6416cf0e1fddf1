use Rattle.ghs_protocol.proofs.charges.Bound.{sends_within}
use Rattle.ghs_protocol.proofs.interleavings.law_bound.Goals as goal

pub returns : goal.returns
returns c = sends_within
