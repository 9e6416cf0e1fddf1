use Rattle.boruvka_protocol.proofs.lemmas.Sizes.{nodes_have_one_last}
use Rattle.boruvka_protocol.proofs.level_laws.law_one_last.Goals as goal

pub returns : goal.returns
returns c = nodes_have_one_last
