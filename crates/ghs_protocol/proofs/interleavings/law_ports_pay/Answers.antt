use Rattle.ghs_protocol.proofs.charges.PortsPay.{ports_pay_once}
use Rattle.ghs_protocol.proofs.interleavings.law_ports_pay.Goals as goal

pub returns : goal.returns
returns c = ports_pay_once
