use Rattle.ghs_protocol.proofs.charges.AllPaid.{sends_are_paid}
use Rattle.ghs_protocol.proofs.interleavings.law_all_paid.Goals as goal

pub returns : goal.returns
returns c = sends_are_paid
