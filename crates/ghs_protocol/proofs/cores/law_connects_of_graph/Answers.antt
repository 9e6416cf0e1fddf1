use Rattle.ghs_protocol.proofs.one_core.Ended.{connects_of_graph}
use Rattle.ghs_protocol.proofs.cores.law_connects_of_graph.Goals as goal

pub returns : goal.returns
returns c = connects_of_graph
