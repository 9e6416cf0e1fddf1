use Rattle.ghs_make.proofs.Pieces.{in_pieces}
use Rattle.ghs_make.proofs.laws.law_pieces.Goals as goal

pub returns : goal.returns
returns c = in_pieces
