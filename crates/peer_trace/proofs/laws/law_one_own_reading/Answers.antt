use Rattle.peer_trace.proofs.Readings.{one_own_reading}
use Rattle.peer_trace.proofs.laws.law_one_own_reading.Goals as goal

pub returns : goal.returns
returns c = one_own_reading c.law_one_reading.ensures
