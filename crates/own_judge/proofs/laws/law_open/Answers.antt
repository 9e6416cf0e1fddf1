use Rattle.own_judge.proofs.Cases.{asks_rightly}
use Rattle.own_judge.proofs.laws.law_open.Goals as goal

pub returns : goal.returns
returns c = asks_rightly
