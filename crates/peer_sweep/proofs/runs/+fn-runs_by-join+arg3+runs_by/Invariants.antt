use Rattle.std.proofs.Common.{◌*◌, ◌-◌}
use Rattle.peer_sweep.proofs.runs.+fn-runs_by-join+arg3+runs_by.Given as goal

-- from a call to its closure, and from there to the call with a thread less
abbrev pub decreases-join+arg3 : goal.decreases-join+arg3
decreases-join+arg3 g l = 2 * l.threads - 1

abbrev pub decreases-runs_by : goal.decreases-runs_by
decreases-runs_by g l = 2 * l.threads
