use Rattle.std.proofs.Common.{◌≡◌, ◌≤◌, length}
use Rattle.ghs_chart.specs.Strip.{most_of}
use Rattle.ghs_chart.proofs.strip.most_in.Given as goal

abbrev pub invariant-loop-column : goal.invariant-loop-column
invariant-loop-column l = (l.most ≡ most_of l.column l.bound l.values) × (l.most ≤ length l.values)
