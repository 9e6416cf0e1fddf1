use Rattle.std.proofs.Common.{◌≡◌, false, rules}
use Rattle.clap.specs.Words.{subcommand_rows_of}
use Rattle.ghs_commands.specs.Job.{has_values}
use Rattle.ghs_commands.proofs.Said.{said_of_values}
use Rattle.ghs_commands.proofs.job.job_of.Goals as goal

pub returns-in-Err-clause-fault : goal.returns-in-Err-clause-fault
returns-in-Err-clause-fault c =
    let lacks : has_values (subcommand_rows_of c.args.matches.now) ≡ false = search rules in
    said_of_values (subcommand_rows_of c.args.matches.now) c.in-Err.fault lacks (search rules)
