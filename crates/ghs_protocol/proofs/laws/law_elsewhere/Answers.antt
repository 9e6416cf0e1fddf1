use Rattle.ghs_protocol.proofs.every_run.Firsts.{nothing_elsewhere}
use Rattle.ghs_protocol.proofs.laws.law_elsewhere.Goals as goal

pub returns : goal.returns
returns c = nothing_elsewhere
