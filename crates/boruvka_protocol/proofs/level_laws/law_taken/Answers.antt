use Rattle.boruvka_protocol.proofs.lemmas.Cuts.{taken_are_tree}
use Rattle.boruvka_protocol.proofs.level_laws.law_taken.Goals as goal

pub returns : goal.returns
returns c = taken_are_tree
