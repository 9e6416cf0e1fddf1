use Rattle.std.proofs.Common.{◌≡◌, ◌∙◌, ap, IfOk, subst}
use Rattle.clap.specs.Words.{App, app_of, with_subcommand}
use Rattle.ghs_commands.specs.Grammar.{replay_command, run_command, steps_command, tree_command}
use Rattle.ghs_commands.proofs.grammar.with_runs.Goals as goal

pub returns : goal.returns
returns c =
    let one = c.in_ok-command.ensures tree_command c.tree.ensures.app in
    let two = c.in_ok-command-2.ensures run_command c.run.ensures.app in
    let three = c.in_ok-command-3.ensures replay_command c.replay.ensures.app in
    let before =
    three ∙ ap (λ (a : App). with_subcommand a replay_command.top)
    (two ∙ ap (λ (a : App). with_subcommand a run_command.top) one) in
    subst (λ (a : App). IfOk c.with_command-4.result (λ r. app_of r ≡ with_subcommand a steps_command.top)) before
    (c.with_command-4.ensures steps_command c.steps.ensures.app)
