use Rattle.ghs_protocol.proofs.merging.Termination.{ended}
use Rattle.ghs_protocol.proofs.cores.law_merging_ends.Goals as goal

pub returns : goal.returns
returns c g ok pay = let e = ended g ok pay in (e.cost, record { links = e.links; to = e.to; way = e.way; end = e.end })
