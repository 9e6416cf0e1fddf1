use Rattle.gather_protocol.proofs.Awake.{awake_stays}
use Rattle.gather_protocol.proofs.laws.law_awake.Goals as goal

pub returns : goal.returns
returns c = awake_stays
