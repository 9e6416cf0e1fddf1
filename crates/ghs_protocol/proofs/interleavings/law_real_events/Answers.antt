use Rattle.ghs_protocol.proofs.progress.Schedules.{real_events_are_few}
use Rattle.ghs_protocol.proofs.interleavings.law_real_events.Goals as goal

pub returns : goal.returns
returns c = real_events_are_few
