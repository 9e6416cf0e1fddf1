use Rattle.ghs_protocol.proofs.progress.Finish.{silent_nets_are_exact}
use Rattle.ghs_protocol.proofs.interleavings.law_silent_exact.Goals as goal

pub returns : goal.returns
returns c = silent_nets_are_exact
