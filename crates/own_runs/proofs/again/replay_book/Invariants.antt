use Rattle.own_rules.specs.Proved.{runs_are_few}
use Rattle.own_rules.specs.declared.protocol.TheConstants.{RUNNING}
use Rattle.own_runs.proofs.again.replay_book.Given as goal

abbrev pub ghosts-replay_by : goal.ghosts-replay_by
ghosts-replay_by a = record { book = a.rules.now; most = RUNNING; few = runs_are_few }
