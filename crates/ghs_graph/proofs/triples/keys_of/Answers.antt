use Rattle.ghs_graph.proofs.Reading.{graph_of}
use Rattle.ghs_graph.proofs.triples.keys_of.Goals as goal

pub returns-clause-graph : goal.returns-clause-graph
returns-clause-graph c = graph_of c.args.raw.now.nodes c.args.raw.now.keys c.keys.ensures.graph
