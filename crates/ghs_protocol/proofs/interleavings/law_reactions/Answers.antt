use Rattle.ghs_protocol.proofs.every_run.Interleavings.{work_has_reaction}
use Rattle.ghs_protocol.proofs.interleavings.law_reactions.Goals as goal

pub returns : goal.returns
returns c = work_has_reaction
