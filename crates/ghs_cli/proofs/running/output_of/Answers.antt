use Rattle.ghs_cli.specs.Verbs.{verbs_of}
use Rattle.ghs_cli.proofs.Texts.{cause_of_text, output_of_text}
use Rattle.ghs_cli.proofs.running.output_of.Goals as goal

pub returns-clause-output : goal.returns-clause-output
returns-clause-output g c =
    output_of_text c.args.options.now.wake c.ran_by.result
    (λ o s. (verbs_of c.args.protocol).runs c.args.options.now s o.at_limit o.text.items) c.in_ok-graph.graph
    (g.S.Source.left c.args.graph.now) c.in_ok-graph.ensures.text c.ran_by.ensures.output

pub returns-clause-fault : goal.returns-clause-fault
returns-clause-fault g c =
    cause_of_text c.args.options.now.wake c.ran_by.result ((verbs_of c.args.protocol).stops c.args.options.now) c.in_ok-graph.graph
    (g.S.Source.left c.args.graph.now) c.in_ok-graph.ensures.text c.ran_by.ensures.fault
