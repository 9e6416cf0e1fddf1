use Rattle.ghs_make.proofs.Counted.{counts_kept}
use Rattle.ghs_make.proofs.laws.law_counted.Goals as goal

pub returns : goal.returns
returns c = counts_kept
