use Rattle.gather_protocol.proofs.Silence.{silence_halts, silence_wakes}
use Rattle.gather_protocol.proofs.laws.law_silence.Goals as goal

pub returns : goal.returns
returns c = record { halts = silence_halts; wakes = silence_wakes }
