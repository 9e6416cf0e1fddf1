use Rattle.ghs_protocol.proofs.progress.Courses.{fair_courses_end}
use Rattle.ghs_protocol.proofs.interleavings.law_fair_courses_end.Goals as goal

pub returns : goal.returns
returns c = fair_courses_end
