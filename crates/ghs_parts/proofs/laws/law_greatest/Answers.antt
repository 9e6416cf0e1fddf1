use Rattle.ghs_parts.proofs.Reaching.{greatest_is_of_nodes}
use Rattle.ghs_parts.proofs.laws.law_greatest.Goals as goal

pub returns : goal.returns
returns c = greatest_is_of_nodes
