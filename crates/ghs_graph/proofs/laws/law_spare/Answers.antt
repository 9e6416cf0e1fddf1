use Rattle.ghs_graph.proofs.lemmas.Forests.{none_is_spare}
use Rattle.ghs_graph.proofs.laws.law_spare.Goals as goal

pub returns : goal.returns
returns c = none_is_spare
