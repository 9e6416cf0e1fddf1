use Rattle.own_rules.specs.Proved.{runs_are_few}
use Rattle.own_rules.specs.declared.protocol.TheConstants.{RUNNING}
use Rattle.own_runs.proofs.steps.write_steps_book.Given as goal

abbrev pub ghosts-steps_by : goal.ghosts-steps_by
ghosts-steps_by g a = record { book = a.rules.now; most = RUNNING; few = runs_are_few }
