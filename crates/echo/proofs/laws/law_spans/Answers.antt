use Rattle.echo.proofs.Initiators.{one_spans}
use Rattle.echo.proofs.laws.law_spans.Goals as goal

pub returns : goal.returns
returns c = one_spans
