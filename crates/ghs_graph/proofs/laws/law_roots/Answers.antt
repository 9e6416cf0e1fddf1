use Rattle.ghs_graph.proofs.lemmas.Components.{nodes_have_roots, roots_tell}
use Rattle.ghs_graph.proofs.laws.law_roots.Goals as goal

pub returns-clause-some : goal.returns-clause-some
returns-clause-some c = nodes_have_roots

pub returns-clause-tell : goal.returns-clause-tell
returns-clause-tell c = roots_tell
