use Rattle.ghs_orders.proofs.Apart.{latest_is_one}
use Rattle.ghs_orders.proofs.lifo_laws.law_latest_is_one.Goals as goal

pub returns : goal.returns
returns c = latest_is_one
