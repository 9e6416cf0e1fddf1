use Rattle.peer_machine.proofs.lemmas.Budget.{sends_within, ends_within}
use Rattle.peer_machine.proofs.laws.law_budget.Goals as goal

pub returns-clause-sends : goal.returns-clause-sends
returns-clause-sends g c = λ r. sends_within r

pub returns-clause-ends : goal.returns-clause-ends
returns-clause-ends g c = λ r. ends_within r
