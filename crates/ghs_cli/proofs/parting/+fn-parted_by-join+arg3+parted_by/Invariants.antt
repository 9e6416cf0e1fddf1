use Rattle.std.proofs.Common.{◌*◌, ◌-◌}
use Rattle.ghs_cli.proofs.parting.+fn-parted_by-join+arg3+parted_by.Given as goal

-- from a call to its closure, and from there to the call with a thread less
abbrev pub decreases-join+arg3 : goal.decreases-join+arg3
decreases-join+arg3 g l = 2 * l.threads - 1

abbrev pub decreases-parted_by : goal.decreases-parted_by
decreases-parted_by g l = 2 * l.threads
