use Rattle.peer_lengths.proofs.Measuring.{bits_are_within}
use Rattle.peer_lengths.proofs.laws.law_bits.Goals as goal

pub returns : goal.returns
returns g c = λ r. bits_are_within r
