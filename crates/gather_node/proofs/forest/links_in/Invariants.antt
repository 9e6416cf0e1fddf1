use Rattle.std.proofs.Common.{take}
use Rattle.gather_node.specs.Ordered.{AreInOrder}
use Rattle.gather_node.proofs.forest.links_in.Given as goal

abbrev pub invariant-loop-key : goal.invariant-loop-key
invariant-loop-key l = AreInOrder (take l.key-index l.sorted) l.keys.items
