use Rattle.ghs_protocol.proofs.every_run.Connects.{connects_are_one}
use Rattle.ghs_protocol.proofs.laws.law_connects.Goals as goal

pub returns : goal.returns
returns c = connects_are_one
