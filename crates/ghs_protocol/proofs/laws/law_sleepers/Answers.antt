use Rattle.ghs_protocol.proofs.every_run.Firsts.{sleepers_wake_first}
use Rattle.ghs_protocol.proofs.laws.law_sleepers.Goals as goal

pub returns : goal.returns
returns c = sleepers_wake_first
