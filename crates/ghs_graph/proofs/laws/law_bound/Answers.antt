use Rattle.ghs_graph.proofs.lemmas.Logs.{bound_is_one}
use Rattle.ghs_graph.proofs.laws.law_bound.Goals as goal

pub returns : goal.returns
returns c = bound_is_one
