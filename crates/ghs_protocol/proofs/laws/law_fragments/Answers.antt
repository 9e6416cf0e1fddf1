use Rattle.ghs_protocol.proofs.every_run.Firsts.{fragments_are_joined}
use Rattle.ghs_protocol.proofs.laws.law_fragments.Goals as goal

pub returns : goal.returns
returns c = fragments_are_joined
