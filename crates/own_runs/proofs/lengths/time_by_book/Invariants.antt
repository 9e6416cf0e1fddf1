use Rattle.own_rules.specs.Proved.{runs_are_few}
use Rattle.own_rules.specs.declared.protocol.TheConstants.{RUNNING}
use Rattle.own_runs.proofs.lengths.time_by_book.Given as goal

abbrev pub ghosts-time_by : goal.ghosts-time_by
ghosts-time_by a = record { book = a.rules.now; most = RUNNING; few = runs_are_few }
