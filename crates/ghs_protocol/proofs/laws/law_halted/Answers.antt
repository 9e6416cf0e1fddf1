use Rattle.ghs_protocol.proofs.every_run.Firsts.{halted_by_reaction}
use Rattle.ghs_protocol.proofs.laws.law_halted.Goals as goal

pub returns : goal.returns
returns c = halted_by_reaction
