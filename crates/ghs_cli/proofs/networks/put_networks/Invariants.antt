use Rattle.std.proofs.Common.{◌≡◌, ◌++◌, List, ℕ, take}
use Rattle.ghs_cli.specs.Networks.{AreLinesOfAll}
use Rattle.ghs_cli.proofs.networks.put_networks.Given as goal

abbrev pub invariant-loop-place : goal.invariant-loop-place
invariant-loop-place g l = (lines : List ℕ) × AreLinesOfAll l.protocols l.options (take l.place l.networks) lines ×
    (l.text.items ≡ l.fn.text.items ++ lines)
