use Rattle.peer_trace.proofs.Readings.{one_protocol, one_reading_of}
use Rattle.peer_trace.proofs.laws.law_one_stored_reading.Goals as goal

pub returns-clause-reading : goal.returns-clause-reading
returns-clause-reading c = one_reading_of c.law_one_reading.ensures

pub returns-clause-protocol : goal.returns-clause-protocol
returns-clause-protocol c = one_protocol
