use Rattle.boruvka_protocol.proofs.every_run.Nodes.{nodes_stay_awake}
use Rattle.boruvka_protocol.proofs.laws.law_awake.Goals as goal

pub returns : goal.returns
returns c = nodes_stay_awake
