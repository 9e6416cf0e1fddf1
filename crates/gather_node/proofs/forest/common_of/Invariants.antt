use Rattle.std.proofs.Common.{◌≡◌, take}
use Rattle.gather_node.specs.Forest.{common}
use Rattle.gather_node.proofs.forest.common_of.Given as goal

abbrev pub invariant-loop-key : goal.invariant-loop-key
invariant-loop-key l = l.both.items ≡ common (take l.key-index l.tree) l.sent
