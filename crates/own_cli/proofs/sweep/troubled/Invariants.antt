use Rattle.std.proofs.Common.{◌≡◌, length}
use Rattle.ghs_answers.specs.Sheets.{setup_of}
use Rattle.own_cli.specs.Sweep.{IsSoundRun}
use Rattle.peer_sweep.specs.Sweep.{AreRuns}
use Rattle.own_cli.proofs.sweep.troubled.Given as goal

abbrev pub invariant-loop-done : goal.invariant-loop-done
invariant-loop-done l = record {
  runs : AreRuns (IsSoundRun l.rules l.check) l.graph (setup_of l.options) l.options.seeds.first l.runs.items;
  count : length l.runs.items ≡ l.done;
}
