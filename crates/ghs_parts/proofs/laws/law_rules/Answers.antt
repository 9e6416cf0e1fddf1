use Rattle.ghs_parts.proofs.AddingUp.{rules_add_up}
use Rattle.ghs_parts.proofs.laws.law_rules.Goals as goal

pub returns : goal.returns
returns c = rules_add_up
