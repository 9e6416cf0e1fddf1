use Rattle.std.proofs.Common.{◌≡◌, ◌∙◌, ap, codes, IfOk, subst, true}
use Rattle.clap.specs.Simple.{app_of_fields}
use Rattle.clap.specs.Words.{App, app_of, new_app, with_subcommand}
use Rattle.ghs_commands.specs.Grammar.{explore_command, judge_command, make_command, program, replay_command, run_command, steps_command, sweep_command, tree_command, view_command}
use Rattle.ghs_commands.proofs.grammar.program.Goals as goal

-- what runs a network and plays a run again, and then what shows runs, makes networks and explores them
with_runs : App → App
with_runs a =
    with_subcommand (with_subcommand (with_subcommand (with_subcommand a tree_command.top) run_command.top) replay_command.top) steps_command.top

with_shows : App → App
with_shows a =
    with_subcommand (with_subcommand (with_subcommand (with_subcommand a sweep_command.top) view_command.top) make_command.top) explore_command.top

pub returns : goal.returns
unfolding program with_runs with_shows
returns c =
    let bare : App = let a = new_app (codes "ghs") in record a { top = record a.top { has_version = true; subcommand_required = true } } in
    let named : app_of c.about.result ≡ new_app (codes "ghs") = ap app_of_fields c.about.ensures ∙ c.new.ensures.app in
    let told : App = let a = new_app (codes "ghs") in record a { top = record a.top { has_version = true } } in
    let versioned : app_of c.version.result ≡ told =
    ap app_of_fields c.version.ensures ∙ ap (λ (a : App). record a { top = record a.top { has_version = true } }) named in
    let required : app_of c.subcommand_required-command.result ≡ bare =
    ap app_of_fields c.subcommand_required-command.ensures
    ∙ ap (λ (a : App). record a { top = record a.top { subcommand_required = true } }) versioned in
    let judged : app_of c.in_ok-command.command ≡ with_subcommand (with_runs bare) judge_command.top =
    c.in_ok-command.ensures judge_command c.judge.ensures.app
    ∙ ap (λ (a : App). with_subcommand a judge_command.top) (c.in_ok-with_runs.ensures ∙ ap with_runs required) in
    subst (λ (a : App). IfOk c.with_shows.result (λ r. app_of r ≡ with_shows a)) judged c.with_shows.ensures
