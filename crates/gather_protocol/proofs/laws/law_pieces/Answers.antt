use Rattle.gather_protocol.proofs.Pieces.{sends_within_pieces}
use Rattle.gather_protocol.proofs.laws.law_pieces.Goals as goal

pub returns : goal.returns
returns c = sends_within_pieces
