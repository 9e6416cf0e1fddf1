use Rattle.std.proofs.Common.{rules}
use Rattle.own_rules.specs.Rules.{rules_of}
use Rattle.own_rules.specs.Words.{words_of}
use Rattle.own_rules.specs.declared.protocol.TheConstants.{RUNNING}
use Rattle.ghs_answers.proofs.lemmas.Told.{any_told, any_untold}
use Rattle.own_cli.proofs.again.steps_by_book.Goals as goal

pub returns-in_err-write_steps_book-clause-told : goal.returns-in_err-write_steps_book-clause-told
returns-in_err-write_steps_book-clause-told g c =
    any_untold (rules_of c.args.rules.now RUNNING) (words_of c.args.rules.now) c.args.options.now c.args.graph c.args.events.now _ _
    c.from_residual.result c.in_err-write_steps_book.field-0.0 (search rules) c.in_err-write_steps_book.ensures.err

pub returns-clause-told : goal.returns-clause-told
returns-clause-told g c =
    any_told (rules_of c.args.rules.now RUNNING) (words_of c.args.rules.now) c.args.options.now c.args.graph c.args.events.now _ _
    c.in_ok-write_steps_book.ensures.run c.in_ok-write_steps_book.ensures.ok
