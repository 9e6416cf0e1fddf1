use Rattle.ghs_protocol.proofs.progress.Courses.{all_taken_is_fair}
use Rattle.ghs_protocol.proofs.interleavings.law_all_taken_is_fair.Goals as goal

pub returns : goal.returns
returns c = all_taken_is_fair
