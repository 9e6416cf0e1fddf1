use Rattle.ghs_protocol.proofs.every_run.Interleavings.{events_have_rules}
use Rattle.ghs_protocol.proofs.interleavings.law_rules.Goals as goal

pub returns : goal.returns
returns c = events_have_rules
