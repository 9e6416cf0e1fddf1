use Rattle.peer_texts.proofs.Written.{reads_back}
use Rattle.peer_texts.proofs.laws.law_trace.Goals as goal

pub returns : goal.returns
returns c = reads_back
