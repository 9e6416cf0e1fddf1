use Rattle.std.proofs.Common.{◌≡◌, ◌++◌}
use Rattle.std.specs.List.{flat_map}
use Rattle.ghs_chart.specs.Chart.{escaped}
use Rattle.ghs_chart.proofs.panel.put_escaped.Given as goal

abbrev pub invariant-loop-letter : goal.invariant-loop-letter
invariant-loop-letter l = l.text.items ≡ l.fn.text.items ++ flat_map escaped l.yielded
