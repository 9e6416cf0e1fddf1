use Rattle.echo.proofs.Initiators.{initiators_woke}
use Rattle.echo.proofs.laws.law_initiators.Goals as goal

pub returns : goal.returns
returns c = initiators_woke
