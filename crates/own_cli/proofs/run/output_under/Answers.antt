use Rattle.std.proofs.Common.{subst}
use Rattle.std.specs.Prelude.{IfOk}
use Rattle.ghs_graph.specs.Graph.{Shape}
use Rattle.own_cli.specs.Run.{IsOutputOf}
use Rattle.own_cli.proofs.Running.{output_of_run, stop_of_run}
use Rattle.own_cli.proofs.run.output_under.Goals as goal

pub returns-clause-output : goal.returns-clause-output
returns-clause-output c =
    let told = c.in_ok-ran.ensures in
    output_of_run c.args.options.now c.args.check c.args.graph c.args.rules.now c.in_ok-ran.ran
    (record { run = told.run; stands = told.stands; told = told.told }) c.output_of.result (subst (λ (s : Shape). IfOk c.output_of.result (λ out.
    IsOutputOf c.args.options.now.show c.args.rules.now s c.in_ok-ran.ran out.end out.text.items)) c.in_ok-same.ensures c.output_of.ensures.output)

pub returns-clause-fault : goal.returns-clause-fault
returns-clause-fault c =
    let told = c.in_ok-ran.ensures in
    stop_of_run c.args.options.now c.args.check c.args.graph c.args.rules.now c.in_ok-ran.ran
    (record { run = told.run; stands = told.stands; told = told.told }) c.output_of.result c.output_of.ensures.fault
