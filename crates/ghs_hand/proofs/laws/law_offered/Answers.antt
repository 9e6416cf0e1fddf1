use Rattle.ghs_hand.proofs.Offered.{offered_next}
use Rattle.ghs_hand.proofs.laws.law_offered.Goals as goal

pub returns : goal.returns
returns c = offered_next c.law_rules.ensures
