use Rattle.std.proofs.Common.{◌≡◌, length}
use Rattle.peer_sweep.specs.Sweep.{AreRuns}
use Rattle.peer_sweep.proofs.runs.runs_of.Given as goal

abbrev pub invariant-loop-done : goal.invariant-loop-done
invariant-loop-done g l = record {
  runs : AreRuns g.P.Swept.are_figures_of l.graph l.setup l.first l.runs.items;
  count : length l.runs.items ≡ l.done;
}
