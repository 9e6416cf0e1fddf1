use Rattle.ghs_protocol.proofs.progress.Requeues.{requeues_are_waits}
use Rattle.ghs_protocol.proofs.interleavings.law_requeues.Goals as goal

pub returns : goal.returns
returns c = requeues_are_waits
