use Rattle.std.proofs.Common.{ap, ◌∙◌, ◌≡◌, refl, Some, None, option_map}
use Rattle.std.specs.Option.{option_and_then}
use Rattle.clap.specs.Words.{Text, first_of, found_of, subcommand_rows_of}
use Rattle.clap.proofs.WalkLemmas.{first_value-rows}
use Rattle.ghs_commands.specs.Job.{Used, value_in}
use Rattle.ghs_commands.proofs.job.value_of.Goals as goal

-- a value is read from the rows alone
value_in-second : (id : Text) (command : Used) → option_and_then (first_of id) (option_map (λ p. p.1) command) ≡ value_in id command
value_in-second id None = refl
value_in-second id (Some p) = refl

pub returns-in-Some : goal.returns-in-Some
returns-in-Some c =
    c.get_str.ensures ∙ (first_value-rows (found_of c.in-Some.command.now) c.args.id.now
    ∙ (ap (option_and_then (first_of c.args.id.now)) c.in-Some.ensures.rows ∙ value_in-second c.args.id.now (subcommand_rows_of c.args.matches.now)))
