use Rattle.boruvka_protocol.proofs.lemmas.Sizes.{classes_are_large}
use Rattle.boruvka_protocol.proofs.level_laws.law_class_sizes.Goals as goal

pub returns : goal.returns
returns c = classes_are_large
