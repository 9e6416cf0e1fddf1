use Rattle.boruvka_protocol.proofs.lemmas.WaysOut.{whole_is_component, whole_is_tree_there}
use Rattle.boruvka_protocol.proofs.level_laws.law_whole_class.Goals as goal

pub returns-clause-component : goal.returns-clause-component
returns-clause-component c = whole_is_component

pub returns-clause-tree : goal.returns-clause-tree
returns-clause-tree c = whole_is_tree_there
