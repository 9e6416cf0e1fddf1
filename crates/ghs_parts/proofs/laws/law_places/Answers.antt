use Rattle.ghs_parts.proofs.AddingUp.{places_are_rules}
use Rattle.ghs_parts.proofs.laws.law_places.Goals as goal

pub returns : goal.returns
returns c = places_are_rules
