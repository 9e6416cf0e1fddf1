use Rattle.std.proofs.Common.{◌∙◌, ap, subst, sym}
use Rattle.std.specs.Prelude.{IfErr, IfOk}
use Rattle.own_runs.specs.Mark.{mark_of}
use Rattle.own_cli.specs.Run.{IsOwnOutput, StopsOwn}
use Rattle.own_cli.proofs.run.output_by.Goals as goal

pub output_under-requires : goal.output_under-requires
output_under-requires c = c.in_ok-mark.ensures ∙ ap mark_of (sym c.in_ok-rules.ensures)

pub returns-clause-output : goal.returns-clause-output
returns-clause-output c =
    subst (λ b. IfOk c.output_under.result (λ o. IsOwnOutput c.args.options.now c.args.check c.args.graph b o.end o.text.items)) c.in_ok-rules.ensures
    c.output_under.ensures.output

pub returns-clause-fault : goal.returns-clause-fault
returns-clause-fault c =
    subst (λ b. IfErr c.output_under.result (StopsOwn c.args.options.now c.args.check c.args.graph b)) c.in_ok-rules.ensures
    c.output_under.ensures.fault
