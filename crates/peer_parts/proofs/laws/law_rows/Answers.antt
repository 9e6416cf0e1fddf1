use Rattle.peer_parts.proofs.AddingUp.{rows_add_up}
use Rattle.peer_parts.proofs.laws.law_rows.Goals as goal

pub returns : goal.returns
returns g c = λ r words. rows_add_up r words
