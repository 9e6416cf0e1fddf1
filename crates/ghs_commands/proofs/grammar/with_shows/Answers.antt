use Rattle.std.proofs.Common.{◌≡◌, ◌∙◌, ap, IfOk, subst}
use Rattle.clap.specs.Words.{App, app_of, with_subcommand}
use Rattle.ghs_commands.specs.Grammar.{explore_command, make_command, sweep_command, view_command}
use Rattle.ghs_commands.proofs.grammar.with_shows.Goals as goal

pub returns : goal.returns
returns c =
    let one = c.in_ok-command.ensures sweep_command c.sweep.ensures.app in
    let two = c.in_ok-command-2.ensures view_command c.view.ensures.app in
    let three = c.in_ok-command-3.ensures make_command c.make.ensures.app in
    let before =
    three ∙ ap (λ (a : App). with_subcommand a make_command.top)
    (two ∙ ap (λ (a : App). with_subcommand a view_command.top) one) in
    subst (λ (a : App). IfOk c.with_command-4.result (λ r. app_of r ≡ with_subcommand a explore_command.top)) before
    (c.with_command-4.ensures explore_command c.explore.ensures.app)
