use Rattle.std.proofs.Common.{◌∙◌, subst}
use Rattle.std.specs.Prelude.{IfErr, IfOk}
use Rattle.ghs_graph.specs.Graph.{Shape}
use Rattle.ghs_cli.specs.Running.{IsRan, StopsRun}
use Rattle.ghs_cli.proofs.running.ran.Goals as goal

pub returns-clause-output : goal.returns-clause-output
returns-clause-output g c =
    subst (λ (s : Shape). IfOk c.printed.result (λ o. IsRan c.args.options.now s o.at_limit o.text.items))
    (c.run_on-world.ensures.graph ∙ c.in-Ok.ensures.graph) c.printed.ensures.output

pub returns-clause-fault : goal.returns-clause-fault
returns-clause-fault g c =
    subst (λ (s : Shape). IfErr c.printed.result (StopsRun c.args.options.now s))
    (c.run_on-world.ensures.graph ∙ c.in-Ok.ensures.graph) c.printed.ensures.fault
