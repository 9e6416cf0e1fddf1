use Rattle.ghs_make.proofs.Joining.{are_connected}
use Rattle.ghs_make.proofs.laws.law_connected.Goals as goal

pub returns : goal.returns
returns c = are_connected
