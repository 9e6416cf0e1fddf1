use Rattle.ghs_protocol.specs.Merging.{singles}
use Rattle.ghs_protocol.proofs.merging.OneEnd.{one_end, singles_even}
use Rattle.ghs_protocol.proofs.cores.law_orders_agree.Goals as goal

pub returns : goal.returns
returns c ks pay es fs i j y z s ends t ends' = one_end ks pay singles y z es fs i j singles_even s ends t ends'
