use Rattle.std.proofs.Common.{◌≡◌, ◌++◌, List, ℕ, take}
use Rattle.ghs_cli.specs.Networks.{ArePanels}
use Rattle.ghs_cli.proofs.charting.put_panels.Given as goal

abbrev pub invariant-loop-place : goal.invariant-loop-place
invariant-loop-place g l = (panels : List ℕ) × ArePanels l.protocols l.options (take l.place l.networks) panels ×
    (l.text.items ≡ l.fn.text.items ++ panels)
