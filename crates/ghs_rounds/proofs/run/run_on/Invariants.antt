use Rattle.std.proofs.Common.{◌-◌, ◌≤◌, length}
use Rattle.ghs_rounds.specs.Choices.{AreRounds}
use Rattle.ghs_rounds.specs.Runs.{HasRun}
use Rattle.ghs_rounds.proofs.run.run_on.Given as goal

abbrev pub invariant-events : goal.invariant-events
invariant-events l = record {
  run : HasRun l.fn.world l.world l.fn.schedule l.schedule l.rounds.clock.round;
  rounds : AreRounds l.world l.rounds;
  few : l.rounds.clock.round ≤ length l.world.net.trace;
}

abbrev pub decreases-events : goal.decreases-events
decreases-events l = l.world.turns - length l.world.net.trace
