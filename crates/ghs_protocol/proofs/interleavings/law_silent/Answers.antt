use Rattle.ghs_protocol.proofs.progress.Finish.{silent_nets_have_ended}
use Rattle.ghs_protocol.proofs.interleavings.law_silent.Goals as goal

pub returns : goal.returns
returns c = silent_nets_have_ended
