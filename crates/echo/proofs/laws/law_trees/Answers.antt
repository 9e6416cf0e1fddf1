use Rattle.echo.proofs.Initiators.{each_has_one}
use Rattle.echo.proofs.laws.law_trees.Goals as goal

pub returns : goal.returns
returns c = each_has_one
