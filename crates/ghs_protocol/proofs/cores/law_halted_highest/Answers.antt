use Rattle.ghs_protocol.proofs.one_core.Ended.{halted_are_highest}
use Rattle.ghs_protocol.proofs.cores.law_halted_highest.Goals as goal

pub returns : goal.returns
returns c = halted_are_highest
