use Rattle.std.proofs.Common.{◌≡◌, take}
use Rattle.std.specs.List.{flat_map}
use Rattle.ghs_report.specs.TreeText.{link_line}
use Rattle.ghs_report.proofs.tree_text.tree_text.Given as goal

abbrev pub invariant-loop-key : goal.invariant-loop-key
invariant-loop-key l = l.text.items ≡ flat_map link_line (take l.key-index l.tree)
