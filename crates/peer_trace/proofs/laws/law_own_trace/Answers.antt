use Rattle.peer_trace.proofs.Written.{reads_back_own}
use Rattle.peer_trace.proofs.laws.law_own_trace.Goals as goal

pub returns : goal.returns
returns c = reads_back_own c.law_trace.ensures
