use Rattle.peer_knock.proofs.deferring.times_deferred.Given as goal

abbrev pub ghosts-times_by : goal.ghosts-times_by
ghosts-times_by a = record { patient = a.patient }
