use Rattle.ghs_graph.proofs.lemmas.Forests.{tree_is_least}
use Rattle.ghs_graph.proofs.laws.law_least.Goals as goal

pub returns : goal.returns
returns c = tree_is_least
