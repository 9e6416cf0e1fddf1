use Rattle.own_rules.specs.Proved.{runs_are_few}
use Rattle.own_rules.specs.declared.protocol.TheConstants.{RUNNING}
use Rattle.own_view.proofs.page.run_page_book.Given as goal

abbrev pub ghosts-run_page_by : goal.ghosts-run_page_by
ghosts-run_page_by a = record { book = a.rules.now; most = RUNNING; few = runs_are_few }
