use Rattle.ghs_cli.specs.Verbs.{verbs_of}
use Rattle.ghs_cli.proofs.Texts.{cause_of_text, output_of_text}
use Rattle.ghs_cli.proofs.viewing.view_text_of.Goals as goal

pub returns-clause-text : goal.returns-clause-text
returns-clause-text g c =
    output_of_text c.args.options.now.wake c.viewed_by.result
    (λ text s. (verbs_of c.args.protocol).views c.args.options.now s text.items) c.in_ok-graph.graph
    (g.S.Source.left c.args.graph.now) c.in_ok-graph.ensures.text c.viewed_by.ensures.text

pub returns-clause-fault : goal.returns-clause-fault
returns-clause-fault g c =
    cause_of_text c.args.options.now.wake c.viewed_by.result ((verbs_of c.args.protocol).cant_view c.args.options.now) c.in_ok-graph.graph
    (g.S.Source.left c.args.graph.now) c.in_ok-graph.ensures.text c.viewed_by.ensures.fault
