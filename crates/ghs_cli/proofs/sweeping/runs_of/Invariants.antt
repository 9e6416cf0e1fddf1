use Rattle.std.proofs.Common.{◌≡◌, ◌+◌, length}
use Rattle.ghs_answers.specs.Sheets.{setup_of}
use Rattle.ghs_cli.specs.Swept.{AreRunsBy}
use Rattle.ghs_cli.proofs.sweeping.runs_of.Given as goal

abbrev pub invariant-loop-left : goal.invariant-loop-left
invariant-loop-left g l = record {
  runs : AreRunsBy l.protocol l.graph (setup_of l.options) l.options.seeds.first l.runs.items;
  all : length l.runs.items + l.left ≡ l.count;
}

abbrev pub decreases-loop-left : goal.decreases-loop-left
decreases-loop-left g l = l.left
