use Rattle.std.proofs.Common.{◌≡◌, ◌++◌}
use Rattle.ghs_chart.specs.Strip.{bars}
use Rattle.ghs_chart.proofs.strip.put_bars.Given as goal

abbrev pub invariant-loop-column : goal.invariant-loop-column
invariant-loop-column l = l.text.items ≡ l.fn.text.items ++ bars l.column l.bound l.values l.most
