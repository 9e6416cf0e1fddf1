use Rattle.boruvka_protocol.proofs.lemmas.WaysOut.{whole_is_tree}
use Rattle.boruvka_protocol.proofs.level_laws.law_whole.Goals as goal

pub returns : goal.returns
returns c = whole_is_tree
