use Rattle.std.proofs.Common.{◌-◌, length}
use Rattle.ghs_patient.specs.Choices.{AreChoices}
use Rattle.ghs_patient.specs.Runs.{HasRun}
use Rattle.ghs_patient.proofs.lemmas.Growing.{HasGrown}
use Rattle.ghs_picking.proofs.patient.run_on.Given as goal

abbrev pub invariant-events : goal.invariant-events
invariant-events g l = record {
  run : HasRun l.fn.world l.world l.fn.schedule l.schedule;
  grown : HasGrown l.fn.world.net.graph l.fn.world.net.trace l.world.net.trace;
  choices : AreChoices l.world l.choices;
  kept : g.F.Follower.is_of l.world.net.graph l.world.net.trace l.kept;
}

abbrev pub decreases-events : goal.decreases-events
decreases-events g l = l.world.turns - length l.world.net.trace
