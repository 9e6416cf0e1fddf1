use Rattle.own_rules.specs.Proved.{runs_are_few}
use Rattle.own_rules.specs.declared.protocol.TheConstants.{RUNNING}
use Rattle.own_runs.proofs.sweep.figures_by_book.Given as goal

abbrev pub ghosts-figures_by : goal.ghosts-figures_by
ghosts-figures_by a = record { book = a.rules.now; most = RUNNING; few = runs_are_few }
