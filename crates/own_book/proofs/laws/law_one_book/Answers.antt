use Rattle.own_book.proofs.Judged.{one_reading}
use Rattle.own_book.proofs.laws.law_one_book.Goals as goal

pub returns : goal.returns
returns c = one_reading
