use Rattle.ghs_orders.proofs.TurnCounting.{wakes_come_first}
use Rattle.ghs_orders.proofs.round_robin_laws.law_wakes_come_first.Goals as goal

pub returns : goal.returns
returns c = wakes_come_first
