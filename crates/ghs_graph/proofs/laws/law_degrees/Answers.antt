use Rattle.ghs_graph.proofs.lemmas.Degrees.{degrees_are_twice}
use Rattle.ghs_graph.proofs.laws.law_degrees.Goals as goal

pub returns : goal.returns
returns c = degrees_are_twice
