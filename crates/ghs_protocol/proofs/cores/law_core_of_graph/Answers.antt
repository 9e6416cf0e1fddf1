use Rattle.ghs_protocol.proofs.one_core.Runs.{core_is_of_graph}
use Rattle.ghs_protocol.proofs.cores.law_core_of_graph.Goals as goal

pub returns : goal.returns
returns c = core_is_of_graph
