use Rattle.own_book.proofs.Written.{reads_back}
use Rattle.own_book.proofs.laws.law_book.Goals as goal

pub returns : goal.returns
returns c = reads_back
