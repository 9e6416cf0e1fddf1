use Rattle.boruvka_protocol.proofs.lemmas.Cores.{classes_have_one_core}
use Rattle.boruvka_protocol.proofs.level_laws.law_one_core.Goals as goal

pub returns : goal.returns
returns c = classes_have_one_core
