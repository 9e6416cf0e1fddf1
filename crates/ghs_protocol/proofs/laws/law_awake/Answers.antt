use Rattle.ghs_protocol.proofs.every_run.Firsts.{nodes_stay_awake}
use Rattle.ghs_protocol.proofs.laws.law_awake.Goals as goal

pub returns : goal.returns
returns c = nodes_stay_awake
