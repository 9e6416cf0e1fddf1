use Rattle.boruvka_protocol.proofs.lemmas.WaysUp.{classes_have_one_top}
use Rattle.boruvka_protocol.proofs.level_laws.law_one_top.Goals as goal

pub returns : goal.returns
returns c = classes_have_one_top
