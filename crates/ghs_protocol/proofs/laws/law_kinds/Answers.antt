use Rattle.ghs_protocol.proofs.every_run.Firsts.{kinds_balance}
use Rattle.ghs_protocol.proofs.laws.law_kinds.Goals as goal

pub returns : goal.returns
returns c = kinds_balance
