use Rattle.ghs_protocol.proofs.one_core.Components.{one_core_of_all}
use Rattle.ghs_protocol.proofs.cores.law_one_core.Goals as goal

pub returns : goal.returns
returns c = one_core_of_all
