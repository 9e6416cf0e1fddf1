use Rattle.ghs_core.proofs.OneEnd.{have_one_end}
use Rattle.ghs_core.proofs.one_end.law_one_end.Goals as goal

pub returns : goal.returns
returns c = have_one_end _ _ _ _ c.requires.graph c.trace.ensures.graph c.trace.ensures.run c.trace-2.ensures.run
