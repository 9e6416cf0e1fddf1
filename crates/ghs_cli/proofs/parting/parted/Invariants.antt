use Rattle.std.proofs.Common.{◌-◌, ◌≤◌}
use Rattle.ghs_cli.specs.Sweeping.{ArePartedRuns}
use Rattle.ghs_cli.proofs.parting.parted.Given as goal

abbrev pub invariant-loop-left : goal.invariant-loop-left
invariant-loop-left g l = record {
  lines : ArePartedRuns l.options l.parting l.front l.graph l.options.seeds.first (l.count - l.left) l.lines.items;
  left : l.left ≤ l.count;
}

abbrev pub decreases-loop-left : goal.decreases-loop-left
decreases-loop-left g l = l.left
