use Rattle.echo.proofs.Sent.{one_waits}
use Rattle.echo.proofs.laws.law_queues.Goals as goal

pub returns : goal.returns
returns c = one_waits
