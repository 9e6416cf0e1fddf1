use Rattle.own_rules.specs.Proved.{told_awake, told_bound, told_kinds, told_rules}
use Rattle.own_rules.proofs.Ending.{runs_are_short}
use Rattle.own_rules.proofs.laws.law_rules.Goals as goal

pub returns : goal.returns
returns c = λ book most. record {
  kinds = told_kinds book most;
  rules = told_rules book most;
  bounded = told_bound book most;
  awake = told_awake book most;
  short = runs_are_short book most;
}
