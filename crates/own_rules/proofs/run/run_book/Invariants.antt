use Rattle.own_rules.specs.Proved.{runs_are_few}
use Rattle.own_rules.specs.declared.protocol.TheConstants.{RUNNING}
use Rattle.own_rules.proofs.run.run_book.Given as goal

abbrev pub ghosts-run_by : goal.ghosts-run_by
ghosts-run_by a = record { book = a.rules.now; most = RUNNING; few = runs_are_few }
