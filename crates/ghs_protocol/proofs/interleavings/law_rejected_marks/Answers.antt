use Rattle.ghs_protocol.proofs.every_run.Interleavings.{rejected_marks_stay}
use Rattle.ghs_protocol.proofs.interleavings.law_rejected_marks.Goals as goal

pub returns : goal.returns
returns c = rejected_marks_stay
