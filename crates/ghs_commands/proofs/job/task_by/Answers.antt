use Rattle.std.proofs.Common.{◌≡◌, ◌∙◌, rules}
use Rattle.clap.specs.Words.{subcommand_name_of, subcommand_rows_of}
use Rattle.ghs_commands.specs.Job.{IsNoOther, name_in}
use Rattle.ghs_commands.proofs.job.task_by.Goals as goal

pub returns-else-eq-5-clause-task : goal.returns-else-eq-5-clause-task
returns-else-eq-5-clause-task c =
    let same : subcommand_name_of c.args.matches.now ≡ name_in (subcommand_rows_of c.args.matches.now) = search rules in
    -- the name is none of those that were asked for one after another
    let none : IsNoOther (subcommand_rows_of c.args.matches.now) = record {
      run = search rules;
      replay = λ h. (let again = c.plays_again.ensures.1 (rw (c.subcommand_name-else-eq.ensures ∙ same) h) in let no = c.if-plays_again.false in cc);
      steps = search rules;
      sweep = search rules;
      view = search rules;
      make = search rules;
      explore = search rules;
    } in
    search rules
