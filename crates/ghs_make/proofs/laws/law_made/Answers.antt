use Rattle.ghs_make.proofs.Judging.{is_read}
use Rattle.ghs_make.proofs.laws.law_made.Goals as goal

pub returns : goal.returns
returns c = λ n h seed asked. is_read n h seed asked c.law_one_judgement.ensures
