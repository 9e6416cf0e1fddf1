use Rattle.peer_trace.proofs.Written.{reads_back_of}
use Rattle.peer_trace.proofs.laws.law_stored_trace.Goals as goal

pub returns : goal.returns
returns c = reads_back_of c.law_trace.ensures
