use Rattle.own_book.proofs.Queries.{asks_take, asks_wake}
use Rattle.own_book.proofs.laws.law_question.Goals as goal

pub returns-clause-wake : goal.returns-clause-wake
returns-clause-wake c = asks_wake

pub returns-clause-take : goal.returns-clause-take
returns-clause-take c = asks_take
