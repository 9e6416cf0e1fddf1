use Rattle.peer_texts.proofs.Readings.{one_reading}
use Rattle.peer_texts.proofs.laws.law_one_reading.Goals as goal

pub returns : goal.returns
returns c = one_reading
