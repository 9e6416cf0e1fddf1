use Rattle.gather_protocol.proofs.Bound.{one_sends}
use Rattle.gather_protocol.proofs.Exact.{one_sends_just}
use Rattle.gather_protocol.proofs.laws.law_one_waker.Goals as goal

pub returns : goal.returns
returns c = record { most = one_sends; just = one_sends_just }
