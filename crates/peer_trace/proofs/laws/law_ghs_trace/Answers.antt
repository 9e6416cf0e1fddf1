use Rattle.peer_trace.proofs.Readings.{read_as_before}
use Rattle.peer_trace.proofs.laws.law_ghs_trace.Goals as goal

pub returns : goal.returns
returns c = read_as_before
