use Rattle.std.proofs.Common.{◌≡◌}
use Rattle.gather_node.specs.State.{nothing_brought}
use Rattle.gather_node.proofs.node.nothing.Given as goal

abbrev pub invariant-loop-place : goal.invariant-loop-place
invariant-loop-place l = l.brought.items ≡ nothing_brought l._place
