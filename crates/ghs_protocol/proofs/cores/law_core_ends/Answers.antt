use Rattle.ghs_protocol.proofs.one_core.Runs.{halted_are_core_ends}
use Rattle.ghs_protocol.proofs.cores.law_core_ends.Goals as goal

pub returns : goal.returns
returns c = halted_are_core_ends
