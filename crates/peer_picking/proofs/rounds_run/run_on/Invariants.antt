use Rattle.std.proofs.Common.{◌-◌, ◌≤◌, length}
use Rattle.peer_picking.specs.Kept.{AreRounds}
use Rattle.peer_picking.specs.Runs.{HasRun}
use Rattle.peer_picking.proofs.rounds_run.run_on.Given as goal

abbrev pub invariant-events : goal.invariant-events
invariant-events g l = record {
  run : HasRun g.P.Protocol.rules l.turns l.fn.world l.world l.fn.schedule l.schedule l.rounds.round;
  few : l.rounds.round ≤ length l.world.net.trace;
  rounds : AreRounds g.P.Protocol.rules l.world l.rounds;
  kept : g.F.Follower.is_of l.world.net.graph l.world.net.trace l.kept;
}

abbrev pub decreases-events : goal.decreases-events
decreases-events g l = l.turns - length l.world.net.trace
