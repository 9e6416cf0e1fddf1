use Rattle.ghs_graph.proofs.lemmas.Ports.{ports_lead_back}
use Rattle.ghs_graph.proofs.laws.law_far_port.Goals as goal

pub returns : goal.returns
returns c = ports_lead_back
