use Rattle.peer_lengths.proofs.Measuring.{bits_are_by_kind}
use Rattle.peer_lengths.proofs.laws.law_bits_by_kind.Goals as goal

pub returns : goal.returns
returns g c = λ r. bits_are_by_kind r
