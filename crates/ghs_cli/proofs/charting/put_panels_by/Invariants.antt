use Rattle.std.proofs.Common.{◌≡◌, ◌++◌, List, ℕ, take}
use Rattle.ghs_cli.specs.Charts.{ArePanelsByEach}
use Rattle.ghs_cli.proofs.charting.put_panels_by.Given as goal

abbrev pub invariant-loop-index : goal.invariant-loop-index
invariant-loop-index g l =
    (panels : List ℕ) × ArePanelsByEach l.several l.options l.first l.fn.name l.graph (take l.index l.protocols) panels
    × (l.text.items ≡ l.fn.text.items ++ panels)
