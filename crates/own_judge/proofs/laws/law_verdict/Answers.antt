use Rattle.own_judge.proofs.Meaning.{means_verdict}
use Rattle.own_judge.proofs.laws.law_verdict.Goals as goal

pub returns : goal.returns
returns c = means_verdict
