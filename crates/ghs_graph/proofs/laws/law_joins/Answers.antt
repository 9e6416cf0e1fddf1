use Rattle.ghs_graph.proofs.lemmas.Forests.{tree_joins}
use Rattle.ghs_graph.proofs.laws.law_joins.Goals as goal

pub returns : goal.returns
returns c = tree_joins
