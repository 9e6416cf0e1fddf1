use Rattle.ghs_protocol.proofs.progress.FairCourses.{fair_courses_are}
use Rattle.ghs_protocol.proofs.interleavings.law_fair_courses.Goals as goal

pub returns : goal.returns
returns c = fair_courses_are
