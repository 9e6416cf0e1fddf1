use Rattle.std.proofs.Common.{◌-◌, length}
use Rattle.ghs_sched.specs.Runs.{HasRun}
use Rattle.ghs_picking.proofs.seeded.run_seeded.Given as goal

abbrev pub invariant-events : goal.invariant-events
invariant-events g l = record {
  run : HasRun l.fn.world l.world l.fn.schedule l.schedule;
  kept : g.F.Follower.is_of l.world.net.graph l.world.net.trace l.kept;
}

abbrev pub decreases-events : goal.decreases-events
decreases-events g l = l.world.turns - length l.world.net.trace
