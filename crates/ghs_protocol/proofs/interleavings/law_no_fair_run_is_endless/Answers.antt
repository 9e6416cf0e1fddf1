use Rattle.ghs_protocol.proofs.progress.Courses.{no_fair_run_is_endless}
use Rattle.ghs_protocol.proofs.interleavings.law_no_fair_run_is_endless.Goals as goal

pub returns : goal.returns
returns c = no_fair_run_is_endless
