use Rattle.boruvka_protocol.proofs.lemmas.Sizes.{last_level_is_whole, last_level_is_tree}
use Rattle.boruvka_protocol.proofs.level_laws.law_last_level.Goals as goal

pub returns-clause-whole : goal.returns-clause-whole
returns-clause-whole c = last_level_is_whole

pub returns-clause-tree : goal.returns-clause-tree
returns-clause-tree c = last_level_is_tree
