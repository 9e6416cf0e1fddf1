use Rattle.boruvka_protocol.proofs.lemmas.WaysOut.{inside_is_tree}
use Rattle.boruvka_protocol.proofs.level_laws.law_inside.Goals as goal

pub returns : goal.returns
returns c = inside_is_tree
