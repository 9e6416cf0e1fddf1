use Rattle.gather_protocol.proofs.Rules.{has_rules}
use Rattle.gather_protocol.proofs.laws.law_rules.Goals as goal

pub returns : goal.returns
returns c = has_rules
