use Rattle.own_judge.proofs.Cases.{agrees_rightly, differs_rightly}
use Rattle.own_judge.proofs.laws.law_looks.Goals as goal

pub returns-clause-agrees : goal.returns-clause-agrees
returns-clause-agrees c = agrees_rightly

pub returns-clause-differs : goal.returns-clause-differs
returns-clause-differs c = differs_rightly
