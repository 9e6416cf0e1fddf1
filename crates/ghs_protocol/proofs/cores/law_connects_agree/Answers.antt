use Rattle.ghs_protocol.proofs.one_core.Ended.{connects_agree}
use Rattle.ghs_protocol.proofs.cores.law_connects_agree.Goals as goal

pub returns : goal.returns
returns c = connects_agree
