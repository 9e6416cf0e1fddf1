use Rattle.std.proofs.Common.{rules}
use Rattle.ghs_graph.proofs.lemmas.Logs.{floor_log2_between}
use Rattle.ghs_graph.proofs.bounds.floor_log2.Goals as goal

pub returns : goal.returns
returns c = search (rules, floor_log2_between)
