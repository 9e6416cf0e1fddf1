use Rattle.ghs_orders.proofs.OneNext.{turn_is_one}
use Rattle.ghs_orders.proofs.round_robin_laws.law_turn_is_one.Goals as goal

pub returns : goal.returns
returns c = turn_is_one
