use Rattle.ghs_protocol.proofs.every_run.Firsts.{events_happen_so}
use Rattle.ghs_protocol.proofs.laws.law_events.Goals as goal

pub returns : goal.returns
returns c = events_happen_so
