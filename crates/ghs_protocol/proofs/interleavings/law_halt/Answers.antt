use Rattle.ghs_protocol.proofs.every_run.Sound.{halt_is_exact}
use Rattle.ghs_protocol.proofs.interleavings.law_halt.Goals as goal

pub returns : goal.returns
returns c = halt_is_exact
