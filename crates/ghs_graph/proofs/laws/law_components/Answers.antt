use Rattle.ghs_graph.proofs.lemmas.Components.{forest_has_fewer}
use Rattle.ghs_graph.proofs.laws.law_components.Goals as goal

pub returns : goal.returns
returns c = forest_has_fewer
