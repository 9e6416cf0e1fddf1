use Rattle.ghs_protocol.proofs.one_core.OneNet.{one_end_of_all}
use Rattle.ghs_protocol.proofs.cores.law_one_end.Goals as goal

pub returns : goal.returns
returns c = one_end_of_all
