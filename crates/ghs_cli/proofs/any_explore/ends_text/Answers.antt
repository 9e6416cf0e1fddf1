use Rattle.ghs_cli.proofs.AnyExplorations.{ends_printed}
use Rattle.ghs_cli.proofs.any_explore.ends_text.Goals as goal

pub returns : goal.returns
returns g c =
    ends_printed g.P.Protocol.rules g.P.Spoken.words.kind g.P.Protocol.bound c.explored_text.result (λ text. text.items) c.args.options.now
    c.args.graph.now c.args.explored.now c.requires.graph c.requires.wake
    c.requires.few c.nodes.ensures.graph c.law_range.ensures c.rows.ensures.ends
    (rw (c.states.ensures.number) at c.states.ensures.states) c.explored_text.ensures
