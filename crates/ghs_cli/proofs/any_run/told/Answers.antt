use Rattle.std.proofs.Common.{rules}
use Rattle.ghs_answers.proofs.lemmas.Told.{any_told, any_untold}
use Rattle.ghs_cli.proofs.any_run.told.Goals as goal

pub returns-in_err-write_steps-clause-told : goal.returns-in_err-write_steps-clause-told
returns-in_err-write_steps-clause-told g c =
    any_untold g.P.Protocol.rules g.P.Spoken.words c.args.options.now c.args.graph c.args.events.now _ _ c.from_residual.result
    c.in_err-write_steps.field-0.0 (search rules) c.in_err-write_steps.ensures.err

pub returns-clause-told : goal.returns-clause-told
returns-clause-told g c =
    any_told g.P.Protocol.rules g.P.Spoken.words c.args.options.now c.args.graph c.args.events.now _ _ c.in_ok-write_steps.ensures.run
    c.in_ok-write_steps.ensures.ok
