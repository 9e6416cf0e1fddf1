use Rattle.std.proofs.Common.{◌-◌, length}
use Rattle.peer_picking.specs.LifoKept.{AreLatest}
use Rattle.peer_picking.specs.LifoRuns.{HasRun}
use Rattle.peer_picking.proofs.lifo_run.run_followed.Given as goal

abbrev pub invariant-events : goal.invariant-events
invariant-events g l = record {
  run : HasRun g.P.Protocol.rules l.turns l.fn.world l.world l.fn.schedule l.schedule;
  latest : AreLatest g.P.Protocol.rules l.world.net l.latest;
  kept : g.F.Follower.is_of l.world.net.graph l.world.net.trace l.kept;
}

abbrev pub decreases-events : goal.decreases-events
decreases-events g l = l.turns - length l.world.net.trace
