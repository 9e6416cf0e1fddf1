use Rattle.std.proofs.Common.{◌≡◌, ◌++◌, List, ℕ, take}
use Rattle.ghs_cli.specs.Sweeping.{AreLinesByEach}
use Rattle.ghs_cli.proofs.sweeping.put_lines_by.Given as goal

abbrev pub invariant-loop-protocol : goal.invariant-loop-protocol
invariant-loop-protocol g l =
    (lines : List ℕ) × AreLinesByEach l.says l.options l.front l.graph (take l.protocol-index l.protocols) lines
    × (l.text.items ≡ l.fn.text.items ++ lines)
