use Rattle.ghs_cli.specs.Verbs.{verbs_of}
use Rattle.ghs_cli.proofs.Texts.{cause_of_text, output_of_text}
use Rattle.ghs_cli.proofs.exploring.explored_text_of.Goals as goal

pub returns-clause-text : goal.returns-clause-text
returns-clause-text g c =
    output_of_text c.args.options.now.wake c.found_by.result
    (λ text s. (verbs_of c.args.protocol).explores c.args.options.now s text.items) c.in_ok-graph.graph
    (g.S.Source.left c.args.graph.now) c.in_ok-graph.ensures.text c.found_by.ensures.text

pub returns-clause-fault : goal.returns-clause-fault
returns-clause-fault g c =
    cause_of_text c.args.options.now.wake c.found_by.result ((verbs_of c.args.protocol).cant_explore c.args.options.now) c.in_ok-graph.graph
    (g.S.Source.left c.args.graph.now) c.in_ok-graph.ensures.text c.found_by.ensures.fault
