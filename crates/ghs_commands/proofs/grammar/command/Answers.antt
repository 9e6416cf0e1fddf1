use Rattle.std.proofs.Common.{◌≡◌, ◌∙◌, ap, false}
use Rattle.clap.specs.Simple.{app_of_fields}
use Rattle.clap.specs.Words.{app_of, new_app}
use Rattle.clap.specs.declared.builder.command.Command.TheViews.{out-Command}
use Rattle.ghs_commands.proofs.Commands.{with_arguments, with_locals}
use Rattle.ghs_commands.proofs.grammar.command.Goals as goal

pub returns-clause-local : goal.returns-clause-local
returns-clause-local c =
    let bare : (out-Command c.about.result).has_globals ≡ false = ap (λ f. f.has_globals) c.about.ensures ∙ c.new.ensures.local in
    with_locals _ _ _ c.in_ok-args.ensures c.requires bare

pub returns-clause-app : goal.returns-clause-app
returns-clause-app c =
    let bare : app_of c.about.result ≡ new_app c.args.name.now = ap app_of_fields c.about.ensures ∙ c.new.ensures.app in
    with_arguments _ _ _ _ c.in_ok-args.ensures c.requires bare
