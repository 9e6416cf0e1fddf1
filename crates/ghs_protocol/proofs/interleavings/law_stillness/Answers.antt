use Rattle.ghs_protocol.proofs.progress.Schedules.{stillness_is_end}
use Rattle.ghs_protocol.proofs.interleavings.law_stillness.Goals as goal

pub returns : goal.returns
returns c = stillness_is_end
