use Rattle.gather_protocol.proofs.Found.{branches_found, silence_ends}
use Rattle.gather_protocol.proofs.laws.law_end.Goals as goal

pub returns : goal.returns
returns c = record { silence = silence_ends; tree = branches_found }
