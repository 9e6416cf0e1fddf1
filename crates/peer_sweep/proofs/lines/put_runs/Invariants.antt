use Rattle.std.proofs.Common.{◌≡◌, ◌++◌, take}
use Rattle.peer_sweep.specs.Lines.{line_behind, run_lines}
use Rattle.peer_sweep.proofs.lines.put_runs.Given as goal

abbrev pub invariant-loop-place : goal.invariant-loop-place
invariant-loop-place l = l.text.items ≡ l.fn.text.items ++ run_lines (line_behind l.form l.front l.table l.setup) l.first (take l.place l.runs)
