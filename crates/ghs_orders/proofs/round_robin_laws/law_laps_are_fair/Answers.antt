use Rattle.ghs_orders.proofs.Cutting.{laps_fair}
use Rattle.ghs_orders.proofs.round_robin_laws.law_laps_are_fair.Goals as goal

pub returns : goal.returns
returns c = λ may g turns es graph some before. laps_fair may g graph turns some before
