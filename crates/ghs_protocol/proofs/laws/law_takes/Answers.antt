use Rattle.ghs_protocol.proofs.every_run.Firsts.{takes_are_counted}
use Rattle.ghs_protocol.proofs.laws.law_takes.Goals as goal

pub returns : goal.returns
returns c = takes_are_counted
