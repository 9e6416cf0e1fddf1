use Rattle.ghs_graph.proofs.lemmas.Ports.{ports_rise}
use Rattle.ghs_graph.proofs.laws.law_port_order.Goals as goal

pub returns : goal.returns
returns c = ports_rise
