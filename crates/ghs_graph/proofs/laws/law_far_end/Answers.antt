use Rattle.ghs_graph.proofs.lemmas.Ports.{ports_end_elsewhere}
use Rattle.ghs_graph.proofs.laws.law_far_end.Goals as goal

pub returns : goal.returns
returns c = ports_end_elsewhere
