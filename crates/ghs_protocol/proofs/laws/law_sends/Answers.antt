use Rattle.ghs_protocol.proofs.every_run.Firsts.{sends_are_bounded}
use Rattle.ghs_protocol.proofs.laws.law_sends.Goals as goal

pub returns : goal.returns
returns c = sends_are_bounded
