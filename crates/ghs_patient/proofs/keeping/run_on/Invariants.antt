use Rattle.std.proofs.Common.{◌≡◌, ◌-◌, [], length}
use Rattle.ghs_patient.specs.Keeping.{HasGone}
use Rattle.ghs_patient.proofs.keeping.run_on.Given as goal

abbrev pub invariant-events : goal.invariant-events
invariant-events g l = record {
  gone : HasGone g.K.Keeper.is_next l.fn.world l.fn.schedule l.world l.schedule;
  outs : l.world.outs ≡ [];
  kept : g.K.Keeper.is_of l.world l.kept;
}

abbrev pub decreases-events : goal.decreases-events
decreases-events g l = l.world.turns - length l.world.net.trace
