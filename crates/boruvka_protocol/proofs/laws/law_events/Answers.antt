use Rattle.boruvka_protocol.proofs.every_run.Events.{events_are_few}
use Rattle.boruvka_protocol.proofs.laws.law_events.Goals as goal

pub returns : goal.returns
returns c = events_are_few
