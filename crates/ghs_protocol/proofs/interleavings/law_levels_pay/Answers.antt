use Rattle.ghs_protocol.proofs.charges.LevelsPay.{levels_pay_once}
use Rattle.ghs_protocol.proofs.interleavings.law_levels_pay.Goals as goal

pub returns : goal.returns
returns c = levels_pay_once
