use Rattle.std.proofs.Common.{◌≡◌, ◌++◌, take}
use Rattle.std.specs.List.{flat_map}
use Rattle.ghs_report.specs.CoreLines.{line_of}
use Rattle.ghs_report.proofs.core_lines.put_cores.Given as goal

abbrev pub invariant-loop-component : goal.invariant-loop-component
invariant-loop-component l = l.text.items ≡ l.fn.text.items ++ flat_map line_of (take l.component-index l.components)
