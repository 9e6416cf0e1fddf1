use Rattle.boruvka_protocol.proofs.every_run.Nodes.{levels_stay}
use Rattle.boruvka_protocol.proofs.laws.law_levels.Goals as goal

pub returns : goal.returns
returns c = levels_stay
