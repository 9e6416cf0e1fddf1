use Rattle.boruvka_protocol.proofs.lemmas.Sizes.{levels_are_few}
use Rattle.boruvka_protocol.proofs.level_laws.law_top_level.Goals as goal

pub returns : goal.returns
returns c = levels_are_few
