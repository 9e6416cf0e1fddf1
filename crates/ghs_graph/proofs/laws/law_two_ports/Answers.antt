use Rattle.ghs_graph.proofs.lemmas.Ports.{links_have_two_ports}
use Rattle.ghs_graph.proofs.laws.law_two_ports.Goals as goal

pub returns : goal.returns
returns c = links_have_two_ports
