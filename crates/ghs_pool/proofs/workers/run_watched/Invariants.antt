use Rattle.ghs_pool.proofs.workers.run_watched.Given as goal

abbrev pub ghosts-run_from : goal.ghosts-run_from
ghosts-run_from g a = record { first = a.shop }
