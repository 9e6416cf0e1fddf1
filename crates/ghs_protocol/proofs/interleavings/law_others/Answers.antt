use Rattle.ghs_protocol.proofs.progress.Schedules.{others_leave_alone}
use Rattle.ghs_protocol.proofs.interleavings.law_others.Goals as goal

pub returns : goal.returns
returns c = others_leave_alone
