use Rattle.std.proofs.Common.{rules}
use Rattle.ghs_cli.proofs.Texts.{text_of_built}
use Rattle.ghs_cli.proofs.reading.graph_of.Goals as goal

pub returns-in-Ok-clause-text : goal.returns-in-Ok-clause-text
returns-in-Ok-clause-text g c =
    text_of_built c.args.wake (g.R.Source.left c.args.graph.now) c.in_ok-raw.raw c.in-Ok.built (search rules) (search rules)
    c.in-Ok.ensures.nodes c.in-Ok.ensures.keys
