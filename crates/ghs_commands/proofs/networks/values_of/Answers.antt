use Rattle.std.proofs.Common.{ap, ◌∙◌, ◌≡◌, refl, Some, None, option_map}
use Rattle.std.specs.Option.{option_and_then}
use Rattle.clap.specs.Words.{Text, all_of, found_of, subcommand_rows_of}
use Rattle.clap.proofs.WalkLemmas.{raw_values-rows}
use Rattle.ghs_commands.specs.Job.{Used}
use Rattle.ghs_commands.specs.Networks.{values_in}
use Rattle.ghs_commands.proofs.networks.values_of.Goals as goal

-- values are read from the rows alone
values_in-second : (id : Text) (command : Used) → option_and_then (all_of id) (option_map (λ p. p.1) command) ≡ values_in id command
values_in-second id None = refl
values_in-second id (Some p) = refl

pub returns-in-Some : goal.returns-in-Some
returns-in-Some c =
    c.get_raw.ensures ∙ (raw_values-rows (found_of c.in-Some.command.now) c.args.id.now
    ∙ (ap (option_and_then (all_of c.args.id.now)) c.in-Some.ensures.rows ∙ values_in-second c.args.id.now (subcommand_rows_of c.args.matches.now)))
