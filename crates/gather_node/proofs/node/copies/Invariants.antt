use Rattle.std.proofs.Common.{◌≡◌, take}
use Rattle.gather_node.proofs.node.copies.Given as goal

abbrev pub invariant-loop-links : goal.invariant-loop-links
invariant-loop-links l = l.copies.items ≡ take l.links-index l.brought
