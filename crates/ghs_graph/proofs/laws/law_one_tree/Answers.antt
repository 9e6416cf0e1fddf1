use Rattle.ghs_graph.proofs.lemmas.Keys.{tree_is_same}
use Rattle.ghs_graph.proofs.lemmas.Computing.{tree, tree_is}
use Rattle.ghs_graph.proofs.laws.law_one_tree.Goals as goal

pub returns : goal.returns
returns c ks r = (tree ks, tree_is ks r, λ other h. tree_is_same ks other (tree ks) h (tree_is ks r))
