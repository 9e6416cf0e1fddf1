use Rattle.ghs_graph.proofs.lemmas.Logs.{floor_log2_is_one}
use Rattle.ghs_graph.proofs.laws.law_floor_log2.Goals as goal

pub returns : goal.returns
returns c = floor_log2_is_one
