use Rattle.ghs_cli.specs.Sweeping.{ArePartedRuns}
use Rattle.ghs_cli.proofs.parting.parted_alone.Given as goal

abbrev pub invariant-loop-done : goal.invariant-loop-done
invariant-loop-done l = ArePartedRuns l.options l.parting l.front l.graph l.first l.done l.lines.items
