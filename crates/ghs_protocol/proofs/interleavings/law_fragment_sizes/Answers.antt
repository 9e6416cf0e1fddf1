use Rattle.ghs_protocol.proofs.every_run.Interleavings.{fragments_are_large}
use Rattle.ghs_protocol.proofs.interleavings.law_fragment_sizes.Goals as goal

pub returns : goal.returns
returns c = fragments_are_large
