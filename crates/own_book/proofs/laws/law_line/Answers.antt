use Rattle.own_book.proofs.Joined.{made_of}
use Rattle.own_book.proofs.laws.law_line.Goals as goal

pub returns : goal.returns
returns c = made_of
