use Rattle.echo.proofs.Sent.{two_a_link, echoes_of_others}
use Rattle.echo.proofs.laws.law_sends.Goals as goal

pub returns : goal.returns
returns c = record { all = two_a_link; echoes = echoes_of_others }
